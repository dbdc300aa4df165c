-- Forms of lists.
use Rattle.std.proofs.{Common.{◌≡◌, ℕ, ◌+◌, ◌-◌, ◌<◌, List, [], ◌∷◌, ◌++◌, get_or, take, drop, replicate, arith, ap, sym, ◌∙◌}, Math.Seq.take-add, lemmas.List.flat_map_more}
use Rattle.desk_store_lists.specs.{Forms.{in_run, in_runs}, declared.form.Run.Run}

-- one more run
pub runs_more : (xs : List ℕ) (runs new : List Run) (run : Run) (from end : ℕ) → from < end → new ≡ runs ++ run ∷ [] → in_runs runs ≡ take from xs
    → take (end - from) (drop from xs) ≡ replicate (end - from) (get_or xs from 0) → run.count ≡ end - from → run.district ≡ get_or xs from 0 → in_runs new ≡ take end xs
runs_more xs runs new run from end after put so_far same count district =
    let e : from + (end - from) ≡ end = omega arith in
    ap in_runs put ∙ sym (flat_map_more in_run [] runs run)
    ∙ (λ i. so_far i ++ replicate (count i) (district i)) ∙ ap (λ l. take from xs ++ l) (sym same)
    ∙ sym (take-add from (end - from) xs) ∙ ap (λ (k : ℕ). take k xs) e
