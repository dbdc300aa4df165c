use Rattle.desk_store.specs.claim.Clerks.{Keeps}
use Rattle.seat_trials.proofs.shown.at_call.Given as goal

-- the gallery that is opened
abbrev pub ghosts-is_shown : goal.ghosts-is_shown
ghosts-is_shown g a = record { book = a.opened.seen.book; root = a.opened.pen.nib.key; counts = a.blanks; first = a.catalogue.value; sound = Keeps a.clerk; begins = λ D h x. Unit {0}; asked = λ c. Unit {0} }
