use Rattle.{std.proofs.Common.subst, desk_store_rows.specs.{RowKeys.{IsKey, row_of}, claim.Keys.{chunk, holding}, declared.row_key.RowKey.RowKey as Read}}
use Rattle.{desk_store_pages.proofs.Looking.tells, store_verification_rows.proofs.Belonging.judged}
use Rattle.store_verification_rows.proofs.strays.judge.Goals as goal

pub returns-in-Some-Holding : goal.returns-in-Some-Holding
returns-in-Some-Holding g c =
    let of : IsKey (holding c.in-Some-Holding.plan c.in-Some-Holding.number) c.args.key.now = subst (λ (k : Read). IsKey (row_of k) c.args.key.now) c.in-Some-Holding.field-0-is c.in-Some-Holding.ensures in
    tells c.judge_named.result c.judge_named.ensures
    (λ m w is was. ((is was).0, judged c.args.ranges.now m c.args.key.now c.args.value.now (holding c.in-Some-Holding.plan c.in-Some-Holding.number) of w (is was).1)) (λ m any. any)

pub returns-after-first : goal.returns-after-first
returns-after-first g c =
    let of : IsKey (chunk c.in-Some-Chunk.number c.in-Some-Chunk.piece) c.args.key.now = subst (λ (k : Read). IsKey (row_of k) c.args.key.now) c.in-Some-Chunk.field-0-is c.in-Some-Chunk.ensures in
    tells c.judge_named-in-Some-Chunk.result c.judge_named-in-Some-Chunk.ensures
    (λ m w is was. ((is was).0, judged c.args.ranges.now m c.args.key.now c.args.value.now (chunk c.in-Some-Chunk.number c.in-Some-Chunk.piece) of w (is was).1)) (λ m any. any)
