use Rattle.{http_desk.specs.seats.{Streams.traffic, claim.Streams.IsAskedOf}, inspect_command.specs.desk_store.claim.Clerks.Keeps, serve_command.specs.claim.Lasting.IsLike}
use Rattle.serve_command.proofs.office.serve_clerk.Given as goal

-- the gallery that is opened
abbrev pub ghosts-serve_named : goal.ghosts-serve_named
ghosts-serve_named g a = record { book = a.opened.seen.book; root = a.opened.pen.nib.key; counts = a.blanks; first = a.catalogue.value; sound = Keeps a.clerk; begins = λ E h x. IsLike a.clerk x; asked = IsAskedOf (traffic g.A.Arrivals.gives g.A.Arrivals.takes_back g.A.Reader.Source g.A.Writer.Sink a.arrivals.now) }
