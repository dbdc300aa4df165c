-- Pages that are lent where their bytes lie.
use Rattle.std.{specs.{Borrow.Bor, Prelude.{ℕ, List, [], ◌%◌, Option, Some, None}}, proofs.Common.get_or}
use Rattle.{page_store.specs.declared.pages.Pages.Pages, sector_device.specs.declared.SectorDevice.Ghosts}

-- a transaction's own bytes, or else those that are held
abbrev pub own_or : Option (Bor (List ℕ)) → List ℕ → List ℕ
own_or (Some own) held = own.now
own_or None held = held

module _ {D : Type 0} {g : Ghosts D} where
  -- the bytes that are held at a place
  abbrev pub held_at : Pages D g → ℕ → List ℕ
  held_at ps place = get_or ps.held.items place []

  -- the number of the page that they are of
  abbrev pub held_number : Pages D g → ℕ → ℕ
  held_number ps place = get_or ps.numbers place 0

  -- the bytes of a page that is lent at a place
  abbrev pub lent_bytes : Pages D g → Option (Bor (List ℕ)) → ℕ → List ℕ
  lent_bytes ps own place = own_or own (held_at ps (place % 16))
