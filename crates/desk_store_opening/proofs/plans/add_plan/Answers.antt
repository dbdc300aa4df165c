use Rattle.{std.proofs.Common.rules, desk_store_opening.proofs.Parts.more_whole, desk_store_pages.proofs.Looking.{fails, not_looked}}
use Rattle.desk_store_opening.proofs.plans.add_plan.Goals as goal

pub returns-in-Ok-clause-whole : goal.returns-in-Ok-clause-whole
returns-in-Ok-clause-whole g c before = search (rules, more_whole)

pub returns-in_err-entry-clause-reads : goal.returns-in_err-entry-clause-reads
returns-in_err-entry-clause-reads g c = fails c.from_residual.result c.in_err-entry.ensures.reads c.from_residual.ensures.1 (λ m is. is)

pub returns-in-Ok-clause-reads : goal.returns-in-Ok-clause-reads
returns-in-Ok-clause-reads g c = search rules

pub returns-in-Err-clause-reads : goal.returns-in-Err-clause-reads
returns-in-Err-clause-reads g c = not_looked c.in_ok-entry.ensures.reads.quiet tt
