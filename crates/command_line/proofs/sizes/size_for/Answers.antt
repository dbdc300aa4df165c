use Rattle.{std.proofs.Common.{◌≡◌, ◌*◌, None, sym, ap, ◌∙◌}, command_line.{specs.Sizes.{few_enough, revision_pages}, proofs.Reckoning.{too_many, more_than, one_plan}}}
use Rattle.command_line.proofs.sizes.size_for.Goals as goal

pub returns-in_err-times-clause-value : goal.returns-in_err-times-clause-value
returns-in_err-times-clause-value c =
    let none : None ≡ few_enough (c.args.revisions * revision_pages c.args.blocks c.args.counties) = sym c.in_err-times.was ∙ c.times.ensures ∙ ap (λ n. few_enough (c.args.revisions * n)) c.revision_pages-revision.ensures in
    let size = too_many c.args.blocks c.args.counties c.args.plans c.args.revisions (one_plan c.args.blocks c.args.counties c.args.plans c.args.revisions c.requires.some (more_than _ none)) in
    c.from_residual.ensures ∙ size
