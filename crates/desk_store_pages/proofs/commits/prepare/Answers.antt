use Rattle.{std.proofs.Common.rules, desk_store_pages.proofs.Committed.{holds_after, free_after}}
use Rattle.desk_store_pages.proofs.commits.prepare.Goals as goal

pub returns : goal.returns
returns c = search (rules, holds_after, free_after)
