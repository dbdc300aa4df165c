-- What the edits of a buffer leave.
use Rattle.std.{specs.{List.{All, copy_within}, Prelude.remove}, proofs.lemmas.{Bool.cases_eq, List.{take-take, drop-drop, length-take-le, length-drop, append-nil, set_split}}}
use Rattle.std.proofs.Common.{rules, ◌≡◌, ℕ, ◌+◌, ◌-◌, ◌*◌, ◌<◌, ◌≤◌, List, [], ◌∷◌, ◌++◌, length, take, drop, get_or, set, refl, sym, ap, subst, ◌∙◌, arith, add-one, inl, inr}
use Rattle.{std.proofs.lemmas.List.Elements.{All-nil, All-cons, All-take, All-drop}, page_btree_node.specs.{Bytes.with_entry, Held.{held_node, HasEntryAt}}}
use Rattle.page_btree_node.{specs.claim.Entries.{Entry, IsEntry, entry_bytes, entry_size, body_of, size_of}, proofs.EntryLists.{size-parts, size-take_more, prefix_at, rest_at}}
use Rattle.page_btree_node.proofs.Standing.{Stands, nothing, edited, edited_bytes, edited_places, All-edited, size-edited, length-edited, size-take_from, moved_is, written_is, size_is, view_of}

pub count_small : (es : List Entry) → 3 * length es ≤ size_of es
count_small [] = omega arith
count_small (e ∷ es) = let rest = count_small es in omega arith

module _ (level : ℕ) (es : List Entry) (marks bytes : List ℕ) (s : Stands level es marks bytes) where
  pub marks_rise : (j m : ℕ) → j ≤ m → m ≤ length es → get_or marks j 0 ≤ get_or marks m 0
  marks_rise j m le within = let a = s.places j (omega arith) in let b = s.places m within in let c = size-take_from es j m le in omega arith

  pub has_entry_at : (count i : ℕ) → count ≡ length es → i < length es → HasEntryAt marks i count (get_or marks (i + 1) 0 - get_or marks i 0)
  has_entry_at count i is within = record { within = omega arith; room = let few = s.few in omega arith; large = λ k low le. omega (arith, marks_rise (i + 1) k (omega arith) (omega arith)) }

  pub mark_most : (k : ℕ) → k ≤ length es → get_or marks k 0 ≤ 4 + size_of es
  mark_most k within = let a = s.places k within in let b = size-parts k es in omega arith

  pub mark_step : (i : ℕ) → i < length es → get_or marks (i + 1) 0 ≡ get_or marks i 0 + entry_size (get_or es i nothing)
  mark_step i within = let a = s.places i (omega arith) in let b = s.places (i + 1) (omega arith) in let c = size-take_more es i nothing within in omega arith

-- bytes from one place on move to another, and an entry is written before them
pub placed : (bytes moved new : List ℕ) (at from used to : ℕ) (e : Entry) → moved ≡ copy_within bytes from used to → new ≡ with_entry moved at e → at + entry_size e ≡ to → to ≤ length bytes
    → new ≡ take at bytes ++ (entry_bytes e ++ (take (used - from) (drop from bytes) ++ drop (at + entry_size e + (used - from)) bytes))
placed bytes moved new at from used to e is_moved is_new sum long = rw sum (search (rules, moved_is, written_is))

-- an edit: the bytes after the entries from i up to j move, and so do the places after them
edited_stands : (level : ℕ) (es : List Entry) (marks bytes new_marks new : List ℕ) (i j : ℕ) (mid : List Entry) (added tail : List ℕ) → Stands level es marks bytes → i ≤ j → j ≤ length es → length mid ≤ 1
    → All IsEntry mid → (0 < level → All (λ e. length e.1 ≡ 4) mid) → length es + length mid ≤ 1365 → size_of es + size_of mid ≤ 5191 → 4 ≤ length bytes → added ≡ body_of mid
    → new ≡ take (get_or marks i 0) bytes ++ (added ++ (take (get_or marks (length es) 0 - get_or marks j 0) (drop (get_or marks j 0) bytes) ++ tail))
    → ((k : ℕ) → k ≤ i → get_or new_marks k 0 ≡ get_or marks k 0)
    → ((k m : ℕ) → k + j ≡ i + length mid + m → j ≤ m → m ≤ length es → get_or new_marks k 0 + get_or marks j 0 ≡ get_or marks i 0 + size_of mid + get_or marks m 0)
    → Stands level (edited es i j mid) new_marks new
edited_stands level es marks bytes new_marks new i j mid added tail s ordered within one entries children few room long is_added is kept moved =
    let used = size_is level es marks bytes s in
    let parts = size-parts j es in
    let before = size-take_from es i j ordered in
    let n = length-edited es i j mid (omega arith) in
    let size = size-edited es i j mid in
    let rest : get_or marks (length es) 0 - get_or marks j 0 ≡ size_of (drop j es) = omega arith in
    let body = edited_bytes es bytes new i j mid added tail s.body long is_added
    (is ∙ (λ x. take ((s.places i (omega arith)) x) bytes ++ (added ++ (take (rest x) (drop ((s.places j within) x) bytes) ++ tail)))) in
    search (arith, body, All-edited IsEntry es i j mid s.shape.entries entries, All-edited, s.shape.children, edited_places es marks new_marks i j mid ordered within one s.places kept moved)

pub single : (P : Entry → Type 0) (e : Entry) → P e → All P (e ∷ [])
single P e holds = All-cons P e [] holds (All-nil P)

-- an entry in the place of those from i up to j
pub put_stands : (level : ℕ) (es : List Entry) (marks bytes moved new new_marks : List ℕ) (i j to : ℕ) (e : Entry) → Stands level es marks bytes → i ≤ j → j ≤ length es → length bytes ≡ 5200 → size_of es ≤ 4092 → IsEntry e → (0 < level → length e.1 ≡ 4)
    → get_or marks i 0 + entry_size e ≡ to
    → moved ≡ copy_within bytes (get_or marks j 0) (get_or marks (length es) 0) to → new ≡ with_entry moved (get_or marks i 0) e
    → ((k : ℕ) → k ≤ i → get_or new_marks k 0 ≡ get_or marks k 0)
    → ((k m : ℕ) → k + j ≡ i + 1 + m → j ≤ m → m ≤ length es → get_or new_marks k 0 + get_or marks j 0 ≡ to + get_or marks m 0)
    → Stands level (edited es i j (e ∷ [])) new_marks new
put_stands level es marks bytes moved new new_marks i j to e s ordered within long fits entry child ends_to is_moved is_new kept shifted =
    let few = count_small es in
    let parts = size-parts i es in
    edited_stands level es marks bytes new_marks new i j (e ∷ []) (entry_bytes e) _ s ordered within (omega arith) (single IsEntry e entry) (λ inner. single (λ (f : Entry). length f.1 ≡ 4) e (child inner)) (omega arith) (omega arith) (omega arith)
    (sym (append-nil (entry_bytes e)))
    (placed bytes moved new (get_or marks i 0) (get_or marks j 0) (get_or marks (length es) 0) to e is_moved is_new ends_to (omega arith))
    kept (λ k m sum low le. let there = shifted k m sum low le in omega arith)

pub remove_stands : (level : ℕ) (es : List Entry) (marks bytes new new_marks : List ℕ) (i : ℕ) → Stands level es marks bytes → i < length es → length bytes ≡ 5200
    → new ≡ copy_within bytes (get_or marks (i + 1) 0) (get_or marks (length es) 0) (get_or marks i 0)
    → ((k : ℕ) → k ≤ i → get_or new_marks k 0 ≡ get_or marks k 0)
    → ((k : ℕ) → i < k → k < length es → get_or new_marks k 0 ≡ get_or marks (k + 1) 0 - (get_or marks (i + 1) 0 - get_or marks i 0))
    → Stands level (remove es i) new_marks new
remove_stands level es marks bytes new new_marks i s within long is_new kept shifted =
    let few = s.few in
    let room = s.room in
    subst (λ j. Stands level (edited es i j []) new_marks new) (add-one i)
    (edited_stands level es marks bytes new_marks new i (i + 1) [] [] _ s (omega arith) (omega arith) (omega arith) (All-nil IsEntry) (λ inner. All-nil (λ (f : Entry). length f.1 ≡ 4)) (omega arith) (omega arith) (omega arith) refl
    (is_new ∙ moved_is bytes (get_or marks (i + 1) 0) (get_or marks (length es) 0) (get_or marks i 0)) kept
    (λ k m sum low le.
    let at_m : get_or marks (k + 1) 0 ≡ get_or marks m 0 = ap (λ q. get_or marks q 0) (omega arith) in
    let rise = marks_rise level es marks bytes s (i + 1) m low le in
    let before = marks_rise level es marks bytes s i (i + 1) (omega arith) (omega arith) in
    elim (cases_eq k i) [
      | inl same ↦ (let here = kept k (omega arith) in let at_i : get_or marks k 0 ≡ get_or marks i 0 = ap (λ q. get_or marks q 0) same in let next : get_or marks (k + 1) 0 ≡ get_or marks (i + 1) 0 = ap (λ q. get_or marks (q + 1) 0) same in omega arith)
      | inr other ↦ (let there = shifted k (omega arith) (omega arith) in omega arith)
    ]))

pub set_stands : (level : ℕ) (es : List Entry) (marks bytes moved new new_marks : List ℕ) (i to : ℕ) (e : Entry) → Stands level es marks bytes → i < length es → length bytes ≡ 5200 → size_of es ≤ 4092 → IsEntry e → (0 < level → length e.1 ≡ 4)
    → get_or marks i 0 + entry_size e ≡ to
    → moved ≡ copy_within bytes (get_or marks (i + 1) 0) (get_or marks (length es) 0) to → new ≡ with_entry moved (get_or marks i 0) e
    → ((k : ℕ) → k ≤ i → get_or new_marks k 0 ≡ get_or marks k 0)
    → ((k : ℕ) → i < k → k ≤ length es → get_or new_marks k 0 ≡ get_or marks k 0 - (get_or marks (i + 1) 0 - get_or marks i 0) + (to - get_or marks i 0))
    → Stands level (set es i e) new_marks new
set_stands level es marks bytes moved new new_marks i to e s within long fits entry child ends_to is_moved is_new kept shifted =
    subst (λ l. Stands level l new_marks new) ((λ x. edited es i (add-one i x) (e ∷ [])) ∙ sym (set_split es i e within))
    (put_stands level es marks bytes moved new new_marks i (i + 1) to e s (omega arith) (omega arith) long fits entry child ends_to is_moved is_new kept (λ k m sum low le.
    let there = shifted k (omega arith) (omega arith) in
    let at_m : get_or marks k 0 ≡ get_or marks m 0 = ap (λ q. get_or marks q 0) (omega arith) in
    let rise = marks_rise level es marks bytes s (i + 1) m low le in
    let before = marks_rise level es marks bytes s i (i + 1) (omega arith) (omega arith) in
    omega arith))

-- ---- a cut
pub left_stands : (level : ℕ) (es : List Entry) (marks bytes : List ℕ) (i : ℕ) → Stands level es marks bytes → i ≤ length es → Stands level (take i es) marks bytes
left_stands level es marks bytes i s within =
    let n = length-take-le i es within in
    let few = s.few in
    let room = s.room in
    let parts = size-parts i es in
    record {
      shape = record { level = s.shape.level; entries = All-take IsEntry i es s.shape.entries; children = λ inner. All-take (λ (f : Entry). length f.1 ≡ 4) i es (s.shape.children inner) };
      few = omega arith;
      body = prefix_at i es (drop 4 bytes) s.body;
      room = omega arith;
      places = λ k le. s.places k (omega arith) ∙ ap (λ l. 4 + size_of l) (sym (take-take k i es (omega arith)));
    }

pub right_stands : (level : ℕ) (es : List Entry) (marks bytes new_marks new : List ℕ) (i : ℕ) → Stands level es marks bytes → i ≤ length es
    → take (size_of (drop i es)) (drop 4 new) ≡ take (size_of (drop i es)) (drop (get_or marks i 0) bytes)
    → ((k : ℕ) → i ≤ k → k ≤ length es → get_or new_marks (k - i) 0 ≡ get_or marks k 0 - get_or marks i 0 + 4)
    → Stands level (drop i es) new_marks new
right_stands level es marks bytes new_marks new i s within same shifted =
    let n = length-drop i es in
    let few = s.few in
    let room = s.room in
    let parts = size-parts i es in
    let at = s.places i within in
    record {
      shape = record { level = s.shape.level; entries = All-drop IsEntry i es s.shape.entries; children = λ inner. All-drop (λ (f : Entry). length f.1 ≡ 4) i es (s.shape.children inner) };
      few = omega arith;
      body = same ∙ ap (λ m. take (size_of (drop i es)) (drop m bytes)) at ∙ ap (take (size_of (drop i es))) (sym (drop-drop (size_of (take i es)) 4 bytes)) ∙ rest_at i es (drop 4 bytes) s.body;
      room = omega arith;
      places = λ k le.
          let m : ℕ = i + k in
          let there = shifted m (omega arith) (omega arith) in
          let sum : m - i ≡ k = omega arith in
          let at_m = s.places m (omega arith) in
          let more = size-take_from es i m (omega arith) in
          let P : ℕ → Type 0 = λ q. get_or new_marks q 0 ≡ 4 + size_of (take q (drop i es)) in
          subst P sum (omega arith);
    }

-- ---- a buffer's fields
pub closed : (level : ℕ) (es : List Entry) (marks bytes : List ℕ) (count other : ℕ) → Stands level es marks bytes → count ≡ length es → level ≡ other → held_node level count bytes ≡ record { level = other; entries = es }
closed level es marks bytes count other s is level_is = view_of level es marks bytes count s is ∙ (λ x. record { level = level_is x; entries = es })

pub record Bounds (level : ℕ) (es : List Entry) (marks : List ℕ) (count i : ℕ) : Type 0 where
  pub used : get_or marks count 0 ≡ 4 + size_of es
  pub at : get_or marks i 0 ≡ 4 + size_of (take i es)
  pub prefix : size_of (take i es) ≤ size_of es
  pub room : size_of es ≤ 5191
  pub few : length es ≤ 1365
  pub small : 3 * length es ≤ size_of es

pub bounds_of : (level : ℕ) (es : List Entry) (marks bytes : List ℕ) (count i : ℕ) → Stands level es marks bytes → count ≡ length es → i ≤ length es → Bounds level es marks count i
bounds_of level es marks bytes count i s is within = search (arith, size-parts i es, size_is level es marks bytes s, count_small es)
