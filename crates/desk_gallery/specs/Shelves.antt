-- What the gallery's rule says of a copy.
use Rattle.std.specs.Prelude.{◌≡◌, ◌⊎◌, ℕ, List, [], ◌∷◌, length}
use Rattle.{desk_gallery.specs.{Rules.shown_of, claim.After.after, declared.{book.Mark.Mark, shelf.PublishedDesk.PublishedDesk}}, desk_model.specs.claim.Desk.Desk}
use Rattle.{desk_model.specs.declared.command.Command.Command, logbook.specs.Pages.Book}
use mathlib.Core.List.{IsPrefix}

-- a log of this book, with the number of changes that are shown in it
abbrev pub IsMark : Book → ℕ → Mark → Type 0
IsMark book root m = (m.seen.book ≡ book) × (m.number ≡ length (shown_of root m.seen.log))

-- the changes that are shown in the copy's log led from the first desk to its catalogue
abbrev pub Stands : Book → ℕ → Desk → PublishedDesk → Type 0
Stands book root first s = IsMark book root s.past × (s.shown.value ≡ after first (shown_of root s.past.seen.log))

-- one shelf waits to be shown, with these changes
abbrev pub WaitsFor : Book → ℕ → Desk → List PublishedDesk → List Command → Type 0
WaitsFor book root first waiting changes = (s : PublishedDesk) × (waiting ≡ s ∷ []) × Stands book root first s × (shown_of root s.past.seen.log ≡ changes)

-- led to by the one of these two lists that both begin
pub record ComesAfter (first : Desk) (one other : List Command) (value : Desk) : Type 0 where
  pub longer : List Command
  pub is : (longer ≡ one) ⊎ (longer ≡ other)
  pub one_begins : IsPrefix one longer
  pub other_begins : IsPrefix other longer
  pub led : value ≡ after first longer
