use Rattle.{std.proofs.Common.{ℕ, subst}, desk_store_opening.specs.Checking.IsChunkSeen, desk_store_pages.proofs.Looking.{begins, tells}}
use Rattle.desk_store_opening.proofs.unkept_chunks.check_county.Goals as goal

pub returns-then-is_known : goal.returns-then-is_known
returns-then-is_known g c = begins (λ m holds last.
    let known = c.is_known.ensures c.if-is_known.true in
    subst (λ (number : ℕ). IsChunkSeen c.args.n number c.args.range.count m) known.1 (last known.0))

pub returns : goal.returns
returns g c = tells c.check_chunk.result c.check_chunk.ensures (λ m _ is last. is) (λ m is. is)
