use Rattle.{std.proofs.{Common.{◌≡◌, ◌∙◌, ℕ, sym, ap, subst, inl, inr, arith, rules}, lemmas.{Bool.cases_eq, Grind.get_or_default_zero}}, desk_model.specs.claim.Block.state_of}
use Rattle.{desk_model.specs.claim.Geography.id_at, geo_tables.proofs.Ids.{id_there, length-ids}}
use Rattle.geo_tables.proofs.checks.are_of_one_state.Goals as goal

pub returns-then-state : goal.returns-then-state
returns-then-state c =
    let xs = c.args.blocks.now in
    let k = c.loop-k.k in
    let here : state_of (id_at xs k) ≡ c.state.result = ap state_of (id_there xs k c.index-blocks-k.result (omega arith)) ∙ sym c.state.ensures in
    let first : state_of (id_at xs 0) ≡ c.state-in-loop-k.result = ap state_of (id_there xs 0 c.index-blocks-0.result (omega arith)) ∙ sym c.state-in-loop-k.ensures in
    (λ f. absurd (cc), λ all. absurd (c.if-state.true (sym here ∙ all k 0 (omega (arith, length-ids xs)) ∙ first)))

pub loop-k-preserved : goal.loop-k-preserved
loop-k-preserved c = λ j less.
    let xs = c.args.blocks.now in
    let k = c.loop-k.k in
    let here : state_of (id_at xs k) ≡ c.state.result = ap state_of (id_there xs k c.index-blocks-k.result (omega arith)) ∙ sym c.state.ensures in
    let first : state_of (id_at xs 0) ≡ c.state-in-loop-k.result = ap state_of (id_there xs 0 c.index-blocks-0.result (omega arith)) ∙ sym c.state-in-loop-k.ensures in
    elim (cases_eq j k) [
      | inl same ↦ subst (λ (n : ℕ). state_of (id_at xs n) ≡ state_of (id_at xs 0)) (sym same) (here ∙ c.if-state.false ∙ sym first)
      | inr other ↦ c.loop-k.invariant j (omega arith)
    ]

pub returns : goal.returns
returns c = search (rules, arith, c.args.blocks.now, length-ids, get_or_default_zero, c.loop-k.invariant)
