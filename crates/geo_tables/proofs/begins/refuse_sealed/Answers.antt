use Rattle.{std.proofs.Common.{rules, sym}, desk_store_pages.specs.Errors.tree_refusal, desk_store_rows.specs.claim.Values.seal_bytes, geo_tables.specs.Refusals.SealedErr}
use Rattle.{desk_store_pages.proofs.Outcomes.match_of, geo_tables.proofs.{Maps.has_geography, Refused.seal_unread}}
use Rattle.geo_tables.proofs.begins.refuse_sealed.Goals as goal

pub returns-in_err-found-clause-none : goal.returns-in_err-found-clause-none
returns-in_err-found-clause-none g c =
    let quiet = c.get_row.ensures.quiet in
    match_of c.from_residual.result _ (tree_refusal c.in_err-found.field-0.0) (SealedErr c.args.pages.now c.get_row.new.pages) c.from_residual.ensures.1
    (seal_unread c.args.txn.now c.args.pages.now c.get_row.new.pages c.requires.working quiet (λ honest. c.requires.reads (quiet.honest honest)) c.in_err-found.field-0.0 (rw c.seal.ensures at c.in_err-found.ensures.err))

pub returns-in-None-clause-none : goal.returns-in-None-clause-none
returns-in-None-clause-none g c = record { passed = c.in_ok-found.ensures.passed; lack = search rules }

pub returns-in-Some-clause-none : goal.returns-in-Some-clause-none
returns-in-Some-clause-none g c = (
  c.in_ok-found.ensures.passed,
  λ honest d holds. has_geography holds.m d (seal_bytes c.in-Some.field-0) holds.is.desk
      (sym (rw (c.seal.ensures, c.in-Some.is) at (c.in_ok-found.ensures.there honest holds.m (c.requires.reads (c.get_row.ensures.quiet.honest honest) holds.m holds.holds)))),
)
