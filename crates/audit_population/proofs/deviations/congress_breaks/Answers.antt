use Rattle.std.proofs.Common.{◌≡◌, ℕ, ◌+◌, ◌-◌, ◌*◌, ◌<◌, ◌≤◌, Bool, cond, ltb, List, [], ◌∷◌, ◌++◌, length, get_or, filter, ap, sym, ◌∙◌, arith, rules}
use Rattle.{std.proofs.lemmas.{Bool.{lt-ltb, le-ltb}, List.{map-id, append-nil, FromFn.filter_of_map_range_with_len_more}}, audit_population.specs.claim.People.districts}
use Rattle.audit_population.specs.claim.Clauses.{deviation, deviates}
use Rattle.audit_population.proofs.deviations.congress_breaks.Goals as goal
use Rattle.audit_population.proofs.deviations.congress_breaks.Goals.{then-deviation_of-total+in_ok-push, else-deviation_of-total}

filter_more : (p : ℕ → Bool) (i : ℕ) → filter p (districts (i + 1)) ≡ filter p (districts i) ++ cond (p (i + 1)) ((i + 1) ∷ []) []
filter_more p i =
    ap (filter p) (sym (map-id (districts (i + 1)))) ∙ filter_of_map_range_with_len_more p (λ x. x) 1 i (i + 1) (omega arith)
    ∙ ap (λ xs. filter p xs ++ cond (p (i + 1)) ((i + 1) ∷ []) []) (map-id (districts i))

here : (populations : List ℕ) (total i people : ℕ) → people ≡ get_or populations i 0
    → deviates populations total (i + 1) ≡ ltb total (100 * deviation (length populations) total people)
here populations total i people is = search rules

-- the next district deviates
listed : (populations : List ℕ) (total i people : ℕ) (breaks : List ℕ) → breaks ≡ filter (deviates populations total) (districts i) → people ≡ get_or populations i 0
    → total < 100 * deviation (length populations) total people → breaks ++ (i + 1) ∷ [] ≡ filter (deviates populations total) (districts (i + 1))
listed populations total i people breaks was is over = search (rules, here, lt-ltb, filter, filter_more)

-- the next district doesn't
passed : (populations : List ℕ) (total i people : ℕ) (breaks : List ℕ) → breaks ≡ filter (deviates populations total) (districts i) → people ≡ get_or populations i 0
    → 100 * deviation (length populations) total people ≤ total → breaks ≡ filter (deviates populations total) (districts (i + 1))
passed populations total i people breaks was is within = search (rules, here, le-ltb, append-nil, filter, filter_more)

pub loop-i-preserved : goal.loop-i-preserved
loop-i-preserved c = search (rules, c.loop-i.invariant, c.deviation_of.ensures.value, then-deviation_of-total+in_ok-push, listed, else-deviation_of-total, passed)
