use Rattle.{std.proofs.Common.{◌+◌, ◌≡◌, ◌*◌, ◌<◌, ◌^◌, length, length-take, take_all, sym, ap, ◌∙◌, arith, rules}, desk_store_rows.specs.claim.Keys.in_two}
use Rattle.desk_store_rows.proofs.ListValues.{filled_more, taken_whole, length-districts}
use Rattle.desk_store_rows.proofs.list.read_districts.Goals as goal

pub returns-then-count-eq0 : goal.returns-then-count-eq0
returns-then-count-eq0 c ns are same =
    let long : length c.args.bytes.now ≡ 2 * length ns = ap length (sym same) ∙ length-districts ns in
    let some = are.some in
    let most = are.most in
    search (arith, c.then-count-eq0.branch)

pub loop-k-preserved : goal.loop-k-preserved
loop-k-preserved c = filled_more in_two 2 512 (λ n. n < 2 ^ 16) c.loop-k.each c.two.result c.loop-k.k (2 * (c.loop-k.k + 1)) c.args.bytes.now
    (omega (arith, c.loop-k.invariant.1)) (omega arith) c.loop-k.invariant c.two.ensures.bytes c.two.type_inv

pub returns : goal.returns
returns c = search (rules, length-take, taken_whole, take_all)
