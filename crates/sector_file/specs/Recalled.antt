-- Sectors that are held in memory.
use Rattle.std.{specs.Prelude.{◌≡◌, ℕ, true, List, []}, proofs.Common.get_or}
use Rattle.sector_file.specs.declared.recent.{HeldSector.HeldSector, Recent.Recent}

-- what is held of a sector is what these sectors have
abbrev pub IsRight : HeldSector → List (List ℕ) → Type 0
IsRight held sectors = held.is ≡ true → get_or sectors held.sector [] ≡ get_or held.bytes.items 0 []

abbrev pub Recalls : Recent → List (List ℕ) → Type 0
Recalls recent sectors = IsRight recent.first sectors × IsRight recent.second sectors
