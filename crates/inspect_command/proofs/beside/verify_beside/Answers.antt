use Rattle.{std.proofs.Common.rules, inspect_command.proofs.Since.{failed_first, verified_since}, store_verification.proofs.Seen.agreed}
use Rattle.inspect_command.proofs.beside.verify_beside.Goals as goal

pub open_sound-requires-clause-sound : goal.open_sound-requires-clause-sound
open_sound-requires-clause-sound g c = λ honest.
    let d = g.D.SectorDevice in
    let old = d.disk c.args.device in
    let new = d.disk c.look_beside.new.device in
    let look = c.look_beside.ensures in
    search (rules, agreed old.reads new.reads (look.moves honest).reads)

pub returns-in-Sound : goal.returns-in-Sound
returns-in-Sound g c = search verified_since

pub returns-in-Unsound : goal.returns-in-Unsound
returns-in-Unsound g c = search verified_since

pub returns-in-Failed : goal.returns-in-Failed
returns-in-Failed g c = search (c.look_beside.ensures, failed_first, c.requires, c.of.ensures.opens, c.in-Failed.ensures.looked)
