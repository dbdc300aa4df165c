use Rattle.{std.proofs.{Common.{rules, length-append}, lemmas.List.get_or_default}, gate_journal.proofs.Images.writes_at, sector_device.proofs.Moments.on_ok}
use Rattle.gate_journal.proofs.Overlays.{overlay_set, overlay_push, writes_set, writes_push, within_push}
use Rattle.gate_journal.proofs.writes.PageWrites.put.Goals as goal

pub returns-in-Some : goal.returns-in-Some
returns-in-Some c = search (rules, get_or_default, overlay_set, writes_set, writes_at)

pub returns-in-None : goal.returns-in-None
returns-in-None c = search (rules, on_ok, overlay_push, within_push, length-append, writes_push)
