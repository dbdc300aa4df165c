use Rattle.desk_gallery.proofs.office.Office.close.Goals as goal

pub returns : goal.returns
returns g c =
    let shown = c.into_inner.result.shown in
    let told = c.close.ensures in
    record { kept = told.kept; ran = (shown, told.accepted, told.clerk.desk); left = record { commands = shown; accepted = told.accepted; halts = told.ran.0; ran = told.ran.1 } }
