use Rattle.{std.proofs.{Common.{◌≡◌, ◌∙◌, ◌<◌, ◌+◌, ◌-◌, ℕ, sym, subst, inl, inr, arith, rules}, lemmas.Bool.cases_eq}, desk_model.specs.claim.Geography.id_at}
use Rattle.geo_tables.proofs.Ids.{id_there, length-ids}
use Rattle.geo_tables.proofs.checks.are_rising.Goals as goal

pub returns-then-number : goal.returns-then-number
returns-then-number c = search (rules, arith, c.args.blocks.now, c.loop-k.k, id_there, c.index-blocks-k.result, c.number.ensures, c.index-blocks-k-in-loop-k.result, c.number-in-loop-k.ensures, length-ids)

pub loop-k-preserved : goal.loop-k-preserved
loop-k-preserved c = λ j less.
    let xs = c.args.blocks.now in
    let k = c.loop-k.k in
    let first : id_at xs (k - 1) ≡ c.number.result = id_there xs (k - 1) c.index-blocks-k.result (omega arith) ∙ sym c.number.ensures in
    let second : id_at xs k ≡ c.number-in-loop-k.result = id_there xs k c.index-blocks-k-in-loop-k.result (omega arith) ∙ sym c.number-in-loop-k.ensures in
    let here : id_at xs (k - 1) < id_at xs k = omega arith in
    elim (cases_eq j (k - 1)) [
      | inl same ↦ subst (λ (n : ℕ). id_at xs n < id_at xs (n + 1)) (sym same) (subst (λ (n : ℕ). id_at xs (k - 1) < id_at xs n) (sym (omega arith)) here)
      | inr other ↦ c.loop-k.invariant j (omega arith)
    ]
