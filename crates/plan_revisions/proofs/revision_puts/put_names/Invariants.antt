use Rattle.{std.proofs.Common.Ok, desk_store_pages.specs.Outcomes.PutsRows, desk_store_rows.specs.{NameRows.name_row, Puts.rows_told}}
use Rattle.plan_revisions.proofs.revision_puts.put_names.Given as goal

abbrev pub invariant-loop-index : goal.invariant-loop-index
invariant-loop-index g l = PutsRows (rows_told (name_row l.plan l.revision l.numbers) l.index) l.initial.txn l.txn l.initial.pages l.pages (Ok (tt {0}))
