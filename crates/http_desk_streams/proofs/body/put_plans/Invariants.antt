use Rattle.{std.proofs.Common.{◌≡◌, ◌++◌, drop}, http_desk_streams.{specs.claim.Bodies.plans_body, proofs.BodyLemmas.rest_of}}
use Rattle.http_desk_streams.proofs.body.put_plans.Given as goal

abbrev pub invariant-loop-row : goal.invariant-loop-row
invariant-loop-row l = l.text.items ++ rest_of l.is_later (drop l.row-index l.rows) ≡ plans_body l.rows
