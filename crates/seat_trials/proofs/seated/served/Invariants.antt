use Rattle.{desk_store.specs.claim.Clerks.Keeps, http_desk_seats.specs.{Streams.traffic, claim.Streams.IsAskedOf}}
use Rattle.seat_trials.proofs.seated.served.Given as goal

-- the gallery that is opened
abbrev pub ghosts-served_in : goal.ghosts-served_in
ghosts-served_in g a = record { book = a.opened.seen.book; root = a.opened.pen.nib.key; counts = a.blanks; first = a.catalogue.value; sound = Keeps a.clerk; begins = λ D h x. Unit {0}; asked = IsAskedOf (traffic g.A.Arrivals.gives g.A.Arrivals.takes_back g.A.Reader.Source g.A.Writer.Sink a.streams.now) }
