-- What names a gallery: its list of changes with the first key, its first desk, and the ledgers of what its seats are told.
use Rattle.std.specs.Prelude.{◌≡◌, ℕ}
use Rattle.{desk_gallery.specs.declared.book.Opened.Opened, desk_model.specs.claim.Desk.Desk, logbook.specs.Pages.Book}

-- the list of a gallery was opened, and its first desk is shown
pub record IsOpenedFor (book : Book) (root : ℕ) (first : Desk) (opened : Opened) (shown : Desk) : Type 0 where
  pub book_is : opened.seen.book ≡ book
  pub root_is : opened.pen.nib.key ≡ root
  pub first_is : shown ≡ first

-- that of the commands that are accepted, and that of those told as halted, each cut into as many parts as there are seats
pub record Counts : Type 0 where
  pub accepted : ℕ
  pub halted : ℕ
  pub seats : ℕ

-- stands where nothing is picked
abbrev pub no_counts : Counts
no_counts = record { accepted = 0; halted = 0; seats = 0 }
