use Rattle.desk_store.specs.claim.Clerks.{Keeps}
use Rattle.seat_trials.proofs.galleries.a_change_is_appended_and_shown.Given as goal

-- the gallery that is opened
abbrev pub ghosts-in_gallery : goal.ghosts-in_gallery
ghosts-in_gallery g a = record { book = a.opened.seen.book; root = a.opened.pen.nib.key; counts = record { accepted = 0; halted = 0; seats = 0 }; first = a.catalogue.value; sound = Keeps a.clerk; begins = λ D h x. Unit {0}; asked = λ c. Unit {0} }
