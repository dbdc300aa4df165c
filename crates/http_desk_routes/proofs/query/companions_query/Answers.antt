use Rattle.{std.proofs.Common.{◌∙◌, sym}, http_desk_routes.proofs.Told.{none_unless, nothing_told}}
use Rattle.http_desk_routes.proofs.query.companions_query.Goals as goal

pub returns-in_default : goal.returns-in_default
returns-in_default c =
    nothing_told c.loop-pair.told _ _ _ _ c.loop-pair.invariant c.in-Some.ensures.steps (sym c.in_ok-more.ensures ∙ none_unless _ c.in_default.not-Some)
