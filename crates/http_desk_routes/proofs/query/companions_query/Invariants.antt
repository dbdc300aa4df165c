use Rattle.{std.proofs.Common.◌≡◌, form_urlencoded.specs.Parse.raw_pairs_left, http_desk_routes.{specs.claim.Queries.companions_query as companions_query_of, proofs.Told.told_by}}
use Rattle.http_desk_routes.proofs.query.companions_query.Given as goal

abbrev pub invariant-loop-pair : goal.invariant-loop-pair
invariant-loop-pair l = told_by l.told (raw_pairs_left l.pair-iterator) ≡ companions_query_of l.query
