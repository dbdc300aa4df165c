use Rattle.std.proofs.Common.{[], refl}
use Rattle.http_desk.proofs.seats.desk_gallery.Running.{has_run_none}
use Rattle.serve_command.proofs.office.serve_named.Goals as goal

pub returns-in-Err-Refused-clause-ran : goal.returns-in-Err-Refused-clause-ran
returns-in-Err-Refused-clause-ran g c = ([], tt, c.requires.starts.same)

pub returns-in-Err-Refused-clause-left : goal.returns-in-Err-Refused-clause-left
returns-in-Err-Refused-clause-left g c =
    record { commands = []; accepted = tt; halts = 0; ran = (has_run_none g.J.GalleryId.begins g.J.GalleryId.asked c.args.clerk [] 0 c.requires.starts.begins refl refl).0 }

pub returns-in-Err-Memory-clause-left : goal.returns-in-Err-Memory-clause-left
returns-in-Err-Memory-clause-left g c =
    record { commands = []; accepted = tt; halts = 0; ran = (has_run_none g.J.GalleryId.begins g.J.GalleryId.asked c.args.clerk [] 0 c.requires.starts.begins refl refl).0 }
