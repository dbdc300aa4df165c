use Rattle.{std.{specs.Option.option_copied, proofs.Common.{List, ℕ, subst}}, plan_revisions.specs.Outcomes.AddsNext, desk_store_catalogue.proofs.Overlays.overlaid_long}
use Rattle.plan_revisions.proofs.named_adds.add_counties.Goals as goal

pub overlay-requires : goal.overlay-requires
overlay-requires g c = rw c.requires.listed c.requires.last

pub add_whole-requires-clause-next : goal.add_whole-requires-clause-next
add_whole-requires-clause-next g c = overlaid_long c.args.listed.now (option_copied c.args.last) _ _ c.requires.listed c.requires.last c.in-Ok.ensures

pub returns : goal.returns
returns g c =
    subst (λ (next : List ℕ). AddsNext c.args.geography.now c.args.name.now (option_copied c.args.last) next c.args.txn.now c.add_whole.new.txn c.args.pages.now c.add_whole.new.pages c.add_whole.result)
    c.in-Ok.ensures c.add_whole.ensures
