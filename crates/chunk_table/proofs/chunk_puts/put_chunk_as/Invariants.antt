use Rattle.{std.proofs.Common.Ok, desk_store_pages.specs.Outcomes.PutsRows, desk_store_rows.specs.{ChunkRows.piece_row, Puts.rows_told}}
use Rattle.chunk_table.proofs.chunk_puts.put_chunk_as.Given as goal

abbrev pub invariant-loop-index : goal.invariant-loop-index
invariant-loop-index g l = PutsRows (rows_told (piece_row l.id.number l.districts) l.index) l.initial.txn l.txn l.initial.pages l.pages (Ok (tt {0}))
