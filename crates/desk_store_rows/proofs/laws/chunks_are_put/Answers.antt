use Rattle.{std.proofs.Common.{rules, arith}, desk_store_rows.proofs.ChunkRows.{chunk_put, chunk_kept}}
use Rattle.desk_store_rows.proofs.laws.chunks_are_put.Goals as goal

pub returns : goal.returns
returns c m number districts fits few = search (rules, arith, chunk_put, chunk_kept)
