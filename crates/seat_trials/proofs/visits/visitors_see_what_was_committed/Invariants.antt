use Rattle.desk_store.specs.claim.Clerks.{Keeps}
use Rattle.seat_trials.proofs.visits.visitors_see_what_was_committed.Given as goal

-- the gallery that is opened
abbrev pub ghosts-two_visitors : goal.ghosts-two_visitors
ghosts-two_visitors g a = record { book = a.opened.seen.book; root = a.opened.pen.nib.key; counts = a.blanks; first = a.catalogue.value; sound = Keeps a.clerk; begins = λ D h x. Unit {0}; asked = λ c. Unit {0} }
