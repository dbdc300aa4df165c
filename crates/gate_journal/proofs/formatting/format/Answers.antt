use Rattle.{std.proofs.Common.{arith, rules}, gate_journal.specs.Format.Front, sector_device.{specs.{Disk.Only, claim.Disk.Touches}, proofs.Moments.{touches_more, touches_wider}}}
use Rattle.gate_journal.proofs.formatting.format.Goals as goal

pub returns-in_err-set_gate : goal.returns-in_err-set_gate
returns-in_err-set_gate g c =
    let disk = g.D.SectorDevice.disk in
    let touches : (disk c.set_gate.new.device).is_honest → Touches Front (disk c.args.device.now) (disk c.set_gate.new.device) = λ honest.
    let s = c.in_err-set_gate.ensures.model honest in
    let w = c.in_ok-write.ensures.model s.touches.was_honest in
    touches_more Front (Only 1) _ _ _ (λ i is. omega (arith, is)) (touches_wider (Only 0) Front _ _ (λ i is. omega (arith, is)) w.0) s.touches in
    search rules

pub returns : goal.returns
returns g c =
    let disk = g.D.SectorDevice.disk in
    let touches : (disk c.set_gate.new.device).is_honest → Touches Front (disk c.args.device.now) (disk c.set_gate.new.device) = λ honest.
    let s = c.in_ok-set_gate.ensures.model honest in
    let w = c.in_ok-write.ensures.model s.touches.was_honest in
    touches_more Front (Only 1) _ _ _ (λ i is. omega (arith, is)) (touches_wider (Only 0) Front _ _ (λ i is. omega (arith, is)) w.0) s.touches in
    search rules
