use Rattle.std.proofs.Common.{◌≡◌, suc, ◌+◌, ◌-◌, arith}
use Rattle.file_commands.proofs.quoting.line_after.Goals as goal

pub loop-preserved : goal.loop-preserved
loop-preserved c =
    let e : c.args.ends - c.loop.counter ≡ suc (c.args.ends - (c.loop.counter + 1)) = omega arith in
    rw c.after_line-rest.ensures (rw e at c.loop.invariant)
