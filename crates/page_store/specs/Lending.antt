-- Pages that are held as they were read.
use Rattle.std.{specs.Prelude.{◌≡◌, ◌<◌, ℕ, List, []}, proofs.Common.get_or}
use Rattle.sector_device.specs.claim.Disk.{Image}

-- at each place with a number there are the bytes of the page with that number
abbrev pub AreHeld : List ℕ → List (List ℕ) → Image → Type 0
AreHeld numbers held P = (k : ℕ) → 0 < get_or numbers k 0 → get_or held k [] ≡ P (get_or numbers k 0)
