-- How lists are cut at the counties.
use Rattle.std.{specs.List.{concat, Sorted.IsStrictlyIncreasing}, proofs.{Math.Seq.{take-append_seam, drop-append_seam}, lemmas.Bool.{ne_eqb, eq-eqb, cases_lt}}}
use Rattle.std.proofs.Common.{rules, ◌≡◌, ◌≢◌, ℕ, zero, suc, ◌+◌, ◌-◌, ◌<◌, ◌≤◌, Bool, true, false, cond, eqb, List, [], ◌∷◌, ◌++◌, map, length, take, drop, get_or, All, refl, sym, ap, subst, ◌∙◌, arith, append_assoc, take-append-drop, length-append, length-drop, length-take-le, drop-cons, add-one, ⊎_elim}
use Rattle.{std.proofs.lemmas.List.{append-nil, take_all, get_or-map, length-map, nil_from_length, Elements.{All-push, All-cons, All-nil}}, desk_model.specs.claim.Block.county_of}
use Rattle.desk_model.{specs.{Ranges.{laid, first_county, IsOneCounty, AreCounties, ListsAreCut, RangesAreCounties}, claim.Geography.{GeographyModel, ids}}, proofs.Parts.climbs}
use Rattle.desk_model.specs.{claim.Ranges.{runs, runs_from, parts, counties}, declared.{block.BlockRow.BlockRow, ranges.CountyRange.CountyRange}}

-- the counties before a place are cut off, and a county's blocks from a place on are counted up to there
pub record IsCutTo (cs : List ℕ) (all : List CountyRange) (first place : ℕ) : Type 0 where
  pub before : first < place
  pub here : all ++ laid first (runs_from (get_or cs first 0) (place - first) (drop place cs)) ≡ laid 0 (runs cs)

pub cut_start : (cs : List ℕ) → 0 < length cs → IsCutTo cs [] 0 1
cut_start [] some = absurd (omega arith)
cut_start (c ∷ cs) some = record { before = omega arith; here = refl }

abbrev pub cut_at : ℕ → ℕ → CountyRange
cut_at first count = record { first = first; count = count }

stepped : (cs : List ℕ) (first place : ℕ) → place < length cs → runs_from (get_or cs first 0) (place - first) (drop place cs)
    ≡ cond (eqb (get_or cs place 0) (get_or cs first 0)) (runs_from (get_or cs first 0) (place - first + 1) (drop (place + 1) cs)) ((place - first) ∷ runs_from (get_or cs place 0) 1 (drop (place + 1) cs))
stepped cs first place inside = rw (drop-cons cs place 0, add-one place) refl

pub cut_same : (cs : List ℕ) (all : List CountyRange) (first place : ℕ) → IsCutTo cs all first place → place < length cs → get_or cs place 0 ≡ get_or cs first 0 → IsCutTo cs all first (place + 1)
cut_same cs all first place was inside same = search (rules, more, stepped, eq-eqb)
  where
    more : runs_from (get_or cs first 0) (place + 1 - first) (drop (place + 1) cs) ≡ runs_from (get_or cs first 0) (place - first + 1) (drop (place + 1) cs)
    more = let e : place + 1 - first ≡ place - first + 1 = omega (arith, was.before) in ap (λ n. runs_from (get_or cs first 0) n (drop (place + 1) cs)) e

pub cut_more : (cs : List ℕ) (all : List CountyRange) (first place : ℕ) → IsCutTo cs all first place → place < length cs → get_or cs place 0 ≢ get_or cs first 0
    → IsCutTo cs (all ++ cut_at first (place - first) ∷ []) place (place + 1)
cut_more cs all first place was inside apart = search (rules, append_assoc, joined, stepped, ne_eqb)
  where
    joined : (cut_at first (place - first) ∷ []) ++ laid place (runs_from (get_or cs place 0) (place + 1 - place) (drop (place + 1) cs))
        ≡ laid first ((place - first) ∷ runs_from (get_or cs place 0) 1 (drop (place + 1) cs))
    joined = search rules

pub cut_end : (cs : List ℕ) (all : List CountyRange) (first place : ℕ) → IsCutTo cs all first place → length cs ≤ place → place ≤ length cs → all ++ cut_at first (length cs - first) ∷ [] ≡ laid 0 (runs cs)
cut_end cs all first place was most least = search (arith, nil_from_length (drop place cs) (omega (arith, length-drop place cs)))

-- ---- lists

abbrev cut_or_go_on : Bool → ℕ → ℕ → ℕ → List ℕ → List ℕ
cut_or_go_on b c d n ds = cond b (runs_from c (n + 1) ds) (n ∷ runs_from d 1 ds)

cut_from : (c n : ℕ) (ds xs : List ℕ) → length xs ≡ n + length ds → (concat (parts (runs_from c n ds) xs) ≡ xs) × (map length (parts (runs_from c n ds) xs) ≡ runs_from c n ds)
cut_from c n [] xs long = (append-nil (take n xs) ∙ take_all n xs (omega arith), ap (λ m. m ∷ []) (length-take-le n xs (omega arith)))
cut_from c n (d ∷ ds) xs long =
    elim (eqb d c) as (λ (b : Bool). (concat (parts (cut_or_go_on b c d n ds) xs) ≡ xs) × (map length (parts (cut_or_go_on b c d n ds) xs) ≡ cut_or_go_on b c d n ds)) [
      | true ↦ cut_from c (n + 1) ds xs (omega arith)
      | false ↦ (
          let rest = cut_from d 1 ds (drop n xs) (omega (arith, length-drop n xs)) in (
            ap (λ (more : List ℕ). take n xs ++ more) rest.0 ∙ take-append-drop n xs,
            ap (λ m. m ∷ map length (parts (runs_from d 1 ds) (drop n xs))) (length-take-le n xs (omega arith)) ∙ ap (λ ms. n ∷ ms) rest.1,
          ))
    ]

cut_runs : (cs xs : List ℕ) → length xs ≡ length cs → (concat (parts (runs cs) xs) ≡ xs) × (map length (parts (runs cs) xs) ≡ runs cs)
cut_runs [] xs long = (sym (nil_from_length xs long), refl)
cut_runs (c ∷ cs) xs long = cut_from c 1 cs xs (omega arith)

pub counties_long : (g : GeographyModel) → length (counties g) ≡ length g.blocks
counties_long g = length-map (ids g) county_of ∙ length-map g.blocks (λ (b : BlockRow). b.id)

pub lists_cut : ListsAreCut
lists_cut g xs long = let is = cut_runs (counties g) xs (long ∙ sym (counties_long g)) in record { whole = is.0; lengths = is.1 }

-- ---- counties

pub county_there : (g : GeographyModel) (k : ℕ) (row : BlockRow) → k < length g.blocks → row ≡ get_or g.blocks k row → get_or (counties g) k 0 ≡ county_of row.id
county_there g k row within is =
    get_or-map county_of (ids g) k 0 0 (rw length-map within) ∙ ap county_of (get_or-map (λ (b : BlockRow). b.id) g.blocks k row 0 within ∙ ap (λ (b : BlockRow). b.id) (sym is))

abbrev climbing : ℕ → List ℕ → Type 0
climbing c [] = Unit {0}
climbing c (d ∷ ds) = (c ≤ d) × climbing d ds

climbing_from : (c : ℕ) (ds : List ℕ) → ((i j : ℕ) → i ≤ j → j < length (c ∷ ds) → get_or (c ∷ ds) i 0 ≤ get_or (c ∷ ds) j 0) → climbing c ds
climbing_from c [] rises = tt
climbing_from c (d ∷ ds) rises = (rises 0 1 (omega arith) (omega arith), climbing_from d ds (λ i j less inside. rises (suc i) (suc j) (omega arith) (omega arith)))

-- blocks of the county, at least one
record IsOf (c : ℕ) (prefix : List ℕ) : Type 0 where
  pub some : 0 < length prefix
  pub all : All (λ id. county_of id ≡ c) prefix

-- parts that begin with a county's
record ClimbFrom (c : ℕ) (ps : List (List ℕ)) : Type 0 where
  pub some : 0 < length ps
  pub head : first_county (get_or ps 0 []) ≡ c
  pub are : AreCounties ps

one_county : (c : ℕ) (prefix : List ℕ) → IsOf c prefix → IsOneCounty prefix
one_county c prefix of = record { some = of.some; same = λ k d inside. of.all k d inside ∙ sym (of.all 0 0 of.some) }

alone : (c : ℕ) (prefix : List ℕ) → IsOf c prefix → ClimbFrom c (prefix ∷ [])
alone c prefix of = record {
  some = omega arith;
  head = of.all 0 0 of.some;
  are = record { one = All-cons IsOneCounty prefix [] (one_county c prefix of) (All-nil IsOneCounty); rising = λ k inside. absurd (omega arith) };
}

with_prefix : (c d : ℕ) (prefix : List ℕ) (ps : List (List ℕ)) → IsOf c prefix → c < d → ClimbFrom d ps → ClimbFrom c (prefix ∷ ps)
with_prefix c d prefix ps of less from = search (rules, All-cons IsOneCounty prefix ps (one_county c prefix of) from.are.one, rising)
  where
    next_is : get_or (map first_county ps) 0 0 ≡ d
    next_is = get_or-map first_county ps 0 [] 0 from.some ∙ from.head

    rising : IsStrictlyIncreasing (map first_county (prefix ∷ ps))
    rising zero inside = let here : first_county prefix ≡ c = of.all 0 0 of.some in omega (arith, here, next_is, less)
    rising (suc k) inside = let e : suc k + 1 ≡ suc (k + 1) = omega arith in rw e (from.are.rising k (omega arith))

more_of : (c r : ℕ) (prefix : List ℕ) → IsOf c prefix → county_of r ≡ c → IsOf c (prefix ++ r ∷ [])
more_of c r prefix of same = record {
  some = omega (arith, length-append prefix (r ∷ []), of.some);
  all = All-push (λ id. county_of id ≡ c) prefix r of.all same;
}

first_of : (r : ℕ) → IsOf (county_of r) (r ∷ [])
first_of r = record { some = omega arith; all = All-cons (λ id. county_of id ≡ county_of r) r [] refl (All-nil (λ id. county_of id ≡ county_of r)) }

counties_from : (c : ℕ) (prefix rest : List ℕ) → IsOf c prefix → climbing c (map county_of rest) → ClimbFrom c (parts (runs_from c (length prefix) (map county_of rest)) (prefix ++ rest))
counties_from c prefix [] of up = subst (λ (xs : List ℕ). ClimbFrom c (xs ∷ [])) (sym (ap (take (length prefix)) (append-nil prefix) ∙ take_all (length prefix) prefix (omega arith))) (alone c prefix of)
counties_from c prefix (r ∷ rest) of up = ⊎_elim
    (λ (less : c < county_of r).
    let apart : county_of r ≢ c = λ e. omega (arith, less, e) in
    rw (ne_eqb _ _ apart, take-append_seam prefix (r ∷ rest), drop-append_seam prefix (r ∷ rest))
    (with_prefix c (county_of r) prefix _ of less (counties_from (county_of r) (r ∷ []) rest (first_of r) up.1)))
    (λ (most : county_of r ≤ c).
    let same : county_of r ≡ c = omega (arith, up.0) in
    let long : length (prefix ++ r ∷ []) ≡ length prefix + 1 = length-append prefix (r ∷ []) in
    rw (eq-eqb _ _ same, ← long, ← append_assoc prefix (r ∷ []) rest) (counties_from c (prefix ++ r ∷ []) rest (more_of c r prefix of same) (rw same at up.1)))
    (cases_lt c (county_of r))

counties_of_runs : (ks : List ℕ) → 0 < length ks → ((i j : ℕ) → i ≤ j → j < length (map county_of ks) → get_or (map county_of ks) i 0 ≤ get_or (map county_of ks) j 0)
    → AreCounties (parts (runs (map county_of ks)) ks)
counties_of_runs [] some rises = absurd (omega arith)
counties_of_runs (k ∷ ks) some rises = (counties_from (county_of k) (k ∷ []) ks (first_of k) (climbing_from (county_of k) (map county_of ks) rises)).are

pub counties_cut : RangesAreCounties
counties_cut g valid = counties_of_runs (ids g) (rw length-map valid.some) rises
  where
    rises : (i j : ℕ) → i ≤ j → j < length (map county_of (ids g)) → get_or (map county_of (ids g)) i 0 ≤ get_or (map county_of (ids g)) j 0
    rises i j less inside =
        let within : j < length g.blocks = omega (arith, counties_long g, inside) in
        rw (get_or-map county_of (ids g) i 0 0 (rw length-map (omega arith)), get_or-map county_of (ids g) j 0 0 (rw length-map within)) (climbs g [] valid i j less within)
