-- The lines' own values, and what the reading of them in turn gives.
use Rattle.std.{specs.{Cmp.Lexicographic.pointwise, List.list_any, Prelude.{AllPairs, nat_eq}, Str.Lines.lines}, proofs.lemmas.Bool.{eq-eqb, eqb-true, cases_Bool}}
use Rattle.std.proofs.Common.{inl, inr, ◌≡◌, ◌≢◌, ℕ, ◌+◌, Bool, true, false, not, cond, eqb, List, [], ◌∷◌, ◌++◌, map, filter, length, get_or, zero, suc, refl, sym, ◌∙◌, ap, arith, All, Contains, Option, Some, None, Result, Ok, Err, is_some, append_assoc, ⊎_elim, rules}
use Rattle.std.proofs.lemmas.List.{append-nil, get_or_default, Elements.{All-cons, All-nil, All-head, All-tail}, Folds.{list_any_at, Any-from_list_any}, Kept.AllPairs-cons}
use Rattle.{std.proofs.lemmas.{Option.same_Some, Slice.Eq.bytes_eq-Decides}, baf_text.specs.Body.{with_district, value_of, IsBody, ReadIsListed}}
use Rattle.desk_model.specs.claim.{Baf.{Values, value_at, header, fields_of, in_range, placed, line_read, at_line, rows_read, with_header}, Geography.{GeographyModel, ids}}
use Rattle.{desk_model.specs.declared.reply.BodyFault.{BodyFault, TheVariants.{UnknownBlock, RepeatedBlock}}, field_text.specs.claim.Fields.fields}
use Rattle.baf_text.proofs.Values.{value_at-push_other}

-- a line's fields add this block with its district
pub record Adds (g : GeographyModel) (n : ℕ) (so_far : Values) (f : Option (ℕ × Option ℕ)) (e : ℕ × ℕ) : Type 0 where
  pub value : value_of n f ≡ Some e
  pub known : list_any (λ id. eqb id e.0) (ids g) ≡ true
  pub fresh : value_at so_far e.0 ≡ None

line_added : (g : GeographyModel) (n : ℕ) (so_far : Values) (f : Option (ℕ × Option ℕ)) (e : ℕ × ℕ) → Adds g n so_far f e → line_read g n so_far f ≡ Ok (so_far ++ e ∷ [])
line_added g n so_far None e adds = let v = adds.value in cc
line_added g n so_far (Some x) e adds = by_range (in_range n x.1) adds.value
  where
    by_range : (d : Option ℕ) → with_district x.0 d ≡ Some e
        → ◌≡◌ {A = Result Values BodyFault} (cond (not (list_any (λ id. eqb id x.0) (ids g))) (Err UnknownBlock) (cond (is_some (value_at so_far x.0)) (Err RepeatedBlock) (placed so_far x.0 d))) (Ok (so_far ++ e ∷ []))
    by_range None is = cc
    by_range (Some d) is = search rules

-- what an accepted line adds
pub record Added (g : GeographyModel) (n : ℕ) (so_far : Values) (f : Option (ℕ × Option ℕ)) (next : Values) : Type 0 where
  pub e : ℕ × ℕ
  pub adds : Adds g n so_far f e
  pub is : so_far ++ e ∷ [] ≡ next

pub line_adds : (g : GeographyModel) (n : ℕ) (so_far : Values) (f : Option (ℕ × Option ℕ)) (next : Values) → line_read g n so_far f ≡ Ok next → Added g n so_far f next
line_adds g n so_far None next ok = cc
line_adds g n so_far (Some x) next ok = by_tests (list_any (λ id. eqb id x.0) (ids g)) (value_at so_far x.0) (in_range n x.1) refl refl refl ok
  where
    by_tests : (known : Bool) (seen d : Option ℕ) → list_any (λ id. eqb id x.0) (ids g) ≡ known → value_at so_far x.0 ≡ seen → in_range n x.1 ≡ d
        → ◌≡◌ {A = Result Values BodyFault} (cond (not known) (Err UnknownBlock) (cond (is_some seen) (Err RepeatedBlock) (placed so_far x.0 d))) (Ok next)
        → Added g n so_far (Some x) next
    by_tests true None (Some d) known_is seen_is d_is ok = search rules
    by_tests _ _ _ known_is seen_is d_is ok = cc

abbrev pub value_in : ℕ → List ℕ → Option (ℕ × ℕ)
value_in n line = value_of n (fields_of (fields line))

abbrev pub with_bytes : List (List ℕ) → List (List ℕ)
with_bytes ls = filter (λ line. not (eqb (length line) 0)) ls

abbrev pub somes : Values → List (Option (ℕ × ℕ))
somes values = map (λ e. Some e) values

-- lines list these blocks besides
pub record ListsMore (g : GeographyModel) (n : ℕ) (so_far : Values) (ls : List (List ℕ)) (more : Values) : Type 0 where
  pub rows : map (value_in n) (with_bytes ls) ≡ somes more
  pub known : All (λ e. list_any (λ id. eqb id e.0) (ids g) ≡ true) more
  pub fresh : All (λ e. value_at so_far e.0 ≡ None) more
  pub once : AllPairs (λ d e. d.0 ≢ e.0) more

-- a list of values begins with the first line's
record Begins (x : Option (ℕ × ℕ)) (xs : List (Option (ℕ × ℕ))) (more : Values) : Type 0 where
  pub e : ℕ × ℕ
  rest : Values
  pub is : more ≡ e ∷ rest
  first : x ≡ Some e
  later : xs ≡ somes rest

begins : (x : Option (ℕ × ℕ)) (xs : List (Option (ℕ × ℕ))) (more : Values) → x ∷ xs ≡ somes more → Begins x xs more
begins x xs [] same = cc
begins x xs (e ∷ rest) same = record { e = e; rest = rest; is = refl; first = cc; later = cc }

pub rows_past : (n : ℕ) (line : List ℕ) (ls : List (List ℕ)) → eqb (length line) 0 ≡ true → map (value_in n) (with_bytes (line ∷ ls)) ≡ map (value_in n) (with_bytes ls)
rows_past n line ls empty = rw empty refl

pub rows_first : (n : ℕ) (line : List ℕ) (ls : List (List ℕ)) → eqb (length line) 0 ≡ false
    → map (value_in n) (with_bytes (line ∷ ls)) ≡ value_in n line ∷ map (value_in n) (with_bytes ls)
rows_first n line ls bytes = rw bytes refl

later_lists : (g : GeographyModel) (n : ℕ) (so_far : Values) (ls past : List (List ℕ)) (e : ℕ × ℕ) (rest : Values) → map (value_in n) (with_bytes ls) ≡ somes rest
    → ListsMore g n so_far past (e ∷ rest) → ListsMore g n (so_far ++ e ∷ []) ls rest
later_lists g n so_far ls past e rest rows lists = record {
  rows = rows;
  known = All-tail (λ e. list_any (λ id. eqb id e.0) (ids g) ≡ true) e rest lists.known;
  fresh = λ k f inside.
      value_at-push_other so_far e.0 e.1 (get_or rest k f).0 (lists.once zero (suc k) f (omega arith) (omega arith)) ∙ lists.fresh (suc k) f (omega arith);
  once = λ i j f less inside. lists.once (suc i) (suc j) f (omega arith) (omega arith);
}

pub rows_listed : (g : GeographyModel) (n at : ℕ) (so_far : Values) (ls : List (List ℕ)) (more : Values) → ListsMore g n so_far ls more → rows_read g n at so_far ls ≡ Ok (so_far ++ more)
rows_listed g n at so_far [] [] lists = ap (λ (values : Values). Ok values) (sym (append-nil so_far))
rows_listed g n at so_far [] (e ∷ more) lists = let rows = lists.rows in cc
rows_listed g n at so_far (line ∷ ls) more lists = ⊎_elim
    (λ (empty : eqb (length line) 0 ≡ true). rw empty
    (rows_listed g n (at + 1) so_far ls more (record { rows = sym (rows_past n line ls empty) ∙ lists.rows; known = lists.known; fresh = lists.fresh; once = lists.once })))
    (λ (bytes : eqb (length line) 0 ≡ false).
    let s = begins (value_in n line) (map (value_in n) (with_bytes ls)) more (sym (rows_first n line ls bytes) ∙ lists.rows) in
    let all : ListsMore g n so_far (line ∷ ls) (s.e ∷ s.rest) = rw s.is at lists in
    let known = All-head (λ e. list_any (λ id. eqb id e.0) (ids g) ≡ true) s.e s.rest all.known in
    let fresh = All-head (λ e. value_at so_far e.0 ≡ None) s.e s.rest all.fresh in
    let adds : Adds g n so_far (fields_of (fields line)) s.e = record { value = s.first; known = known; fresh = fresh } in
    rw (bytes, line_added g n so_far (fields_of (fields line)) s.e adds)
    (rows_listed g n (at + 1) (so_far ++ s.e ∷ []) ls s.rest (later_lists g n so_far ls (line ∷ ls) s.e s.rest s.later all)
    ∙ ap (λ (values : Values). Ok values) (append_assoc so_far (s.e ∷ []) s.rest ∙ ap (λ (values : Values). so_far ++ values) (sym s.is))))
    (cases_Bool (eqb (length line) 0))

-- what the lines that were read list
pub record More (g : GeographyModel) (n : ℕ) (so_far : Values) (ls : List (List ℕ)) (values : Values) : Type 0 where
  pub more : Values
  pub is : so_far ++ more ≡ values
  pub lists : ListsMore g n so_far ls more

-- a line that was accepted, and the reading that goes on after it
pub record ReadsNextLine (g : GeographyModel) (n at : ℕ) (so_far : Values) (line : List ℕ) (ls : List (List ℕ)) (values : Values) : Type 0 where
  pub next : Values
  pub line_is : line_read g n so_far (fields_of (fields line)) ≡ Ok next
  pub rest_is : rows_read g n (at + 1) next ls ≡ Ok values

pub goes_on : (g : GeographyModel) (n at : ℕ) (so_far : Values) (line : List ℕ) (ls : List (List ℕ)) (values : Values)
    → at_line at (line_read g n so_far (fields_of (fields line))) (λ next. rows_read g n (at + 1) next ls) ≡ Ok values → ReadsNextLine g n at so_far line ls values
goes_on g n at so_far line ls values = by_line (line_read g n so_far (fields_of (fields line))) refl
  where
    by_line : (r : Result Values BodyFault) → line_read g n so_far (fields_of (fields line)) ≡ r → at_line at r (λ next. rows_read g n (at + 1) next ls) ≡ Ok values
        → ReadsNextLine g n at so_far line ls values
    by_line (Ok next) is ok = record { next = next; line_is = is; rest_is = ok }
    by_line (Err fault) is ok = cc

-- a block that isn't listed after a line isn't listed before it, and isn't the line's
not_before : (values : Values) (id d other : ℕ) → value_at (values ++ (id, d) ∷ []) other ≡ None → (value_at values other ≡ None) × (id ≢ other)
not_before [] id d other none = (refl, λ same. let e : eqb id other ≡ true = eq-eqb id other same in let some = rw e at none in cc)
not_before (e ∷ more) id d other none = elim (cases_Bool (eqb e.0 other)) [
  | inl here ↦ let some = rw here at none in cc
  | inr past ↦ rw past (not_before more id d other (rw past at none))
]

pub first_lists : (g : GeographyModel) (n : ℕ) (so_far : Values) (line : List ℕ) (ls : List (List ℕ)) (e : ℕ × ℕ) (more : Values) → eqb (length line) 0 ≡ false
    → Adds g n so_far (fields_of (fields line)) e → ListsMore g n (so_far ++ e ∷ []) ls more → ListsMore g n so_far (line ∷ ls) (e ∷ more)
first_lists g n so_far line ls e more bytes adds lists = record {
  rows = rows_first n line ls bytes ∙ ap (λ x. x ∷ map (value_in n) (with_bytes ls)) adds.value ∙ ap (λ (xs : List (Option (ℕ × ℕ))). Some e ∷ xs) lists.rows;
  known = All-cons (λ e. list_any (λ id. eqb id e.0) (ids g) ≡ true) e more adds.known lists.known;
  fresh = All-cons (λ e. value_at so_far e.0 ≡ None) e more adds.fresh (λ k f inside. (not_before so_far e.0 e.1 (get_or more k f).0 (lists.fresh k f inside)).0);
  once = AllPairs-cons (λ d e. d.0 ≢ e.0) e more (λ k f inside. (not_before so_far e.0 e.1 (get_or more k f).0 (lists.fresh k f inside)).1) lists.once;
}

one_more : (g : GeographyModel) (n : ℕ) (so_far : Values) (line : List ℕ) (ls : List (List ℕ)) (values next : Values) → eqb (length line) 0 ≡ false
    → Added g n so_far (fields_of (fields line)) next → More g n next ls values → More g n so_far (line ∷ ls) values
one_more g n so_far line ls values next bytes added m =
    let is = sym (append_assoc so_far (added.e ∷ []) m.more) ∙ ap (λ (before : Values). before ++ m.more) added.is ∙ m.is in
    record { more = added.e ∷ m.more; is = is; lists = first_lists g n so_far line ls added.e m.more bytes added.adds (rw added.is m.lists) }

pub rows_list : (g : GeographyModel) (n at : ℕ) (so_far : Values) (ls : List (List ℕ)) (values : Values) → rows_read g n at so_far ls ≡ Ok values → More g n so_far ls values
rows_list g n at so_far [] values ok = search (rules, append-nil, All-nil)
rows_list g n at so_far (line ∷ ls) values ok = ⊎_elim
    (λ (empty : eqb (length line) 0 ≡ true).
    let m = rows_list g n (at + 1) so_far ls values (rw empty at ok) in
    let past : More g n so_far (line ∷ ls) values = search rules in past)
    (λ (bytes : eqb (length line) 0 ≡ false).
    let on = goes_on g n at so_far line ls values (rw bytes at ok) in
    let added = line_adds g n so_far (fields_of (fields line)) on.next on.line_is in
    one_more g n so_far line ls values on.next bytes added (rows_list g n (at + 1) on.next ls values on.rest_is))
    (cases_Bool (eqb (length line) 0))

-- a block of the geography, as a test
known_from : (xs : List ℕ) (id : ℕ) → Contains xs id → list_any (λ x. eqb x id) xs ≡ true
known_from xs id has = list_any_at (λ x. eqb x id) xs has.0 id has.1 (eq-eqb (get_or xs has.0 id) id has.2)

contains_from : (xs : List ℕ) (id : ℕ) → list_any (λ x. eqb x id) xs ≡ true → Contains xs id
contains_from xs id is = search (rules, Any-from_list_any, get_or_default, eqb-true)

pub body_lists : (g : GeographyModel) (n : ℕ) (ls : List (List ℕ)) (values : Values) → with_header g n ls ≡ Ok values → IsBody g n ls values
body_lists g n [] values ok = cc
body_lists g n (first ∷ more) values ok = ⊎_elim
    (λ (is : pointwise nat_eq first header ≡ true).
    let m = rows_list g n 2 [] more values (rw is at ok) in
    let body : IsBody g n (first ∷ more) m.more = record {
      first = ap (λ (line : List ℕ). Some line) ((bytes_eq-Decides first header).0 is);
      rows = m.lists.rows;
      known = λ k e inside. contains_from (ids g) (get_or m.more k e).0 (m.lists.known k e inside);
      once = m.lists.once;
    } in rw (← m.is) body)
    (λ (is : pointwise nat_eq first header ≡ false). let no = rw is at ok in cc)
    (cases_Bool (pointwise nat_eq first header))

pub body_listed : (g : GeographyModel) (n : ℕ) (ls : List (List ℕ)) (values : Values) → IsBody g n ls values → with_header g n ls ≡ Ok values
body_listed g n [] values is = let first = is.first in cc
body_listed g n (first ∷ more) values is =
    let header_is : first ≡ header = same_Some first header is.first in
    let test : pointwise nat_eq first header ≡ true = (bytes_eq-Decides first header).1 header_is in
    let known : All (λ e. list_any (λ id. eqb id e.0) (ids g) ≡ true) values =
    λ k e inside. known_from (ids g) (get_or values k e).0 (is.known k e inside) in
    rw test (rows_listed g n 2 [] more values (record { rows = is.rows; known = known; fresh = λ k e inside. refl; once = is.once }))

pub read_is_listed : ReadIsListed
read_is_listed g n text values = (body_lists g n (lines text) values, body_listed g n (lines text) values)
