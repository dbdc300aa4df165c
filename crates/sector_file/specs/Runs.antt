-- Sectors that were read by one call.
use Rattle.std.{specs.Prelude.{◌≡◌, ◌<◌, ◌+◌, ℕ, true, List, [], ◌∷◌, length}, proofs.Common.get_or}
use Rattle.sector_file.specs.{Told.{Call, read_call}, declared.run.HeldRun.HeldRun}

-- each sector of the run is what these sectors have at its place
abbrev pub IsRunOf : ℕ → List (List ℕ) → List (List ℕ) → Type 0
IsRunOf first run sectors = (j : ℕ) → j < length run → get_or sectors (first + j) [] ≡ get_or run j []

abbrev pub IsHeldRun : HeldRun → List (List ℕ) → Type 0
IsHeldRun held sectors = held.is ≡ true → IsRunOf held.first held.sectors.items sectors

-- after earlier calls each sector of a run was read
abbrev pub with_run : ℕ → List (List ℕ) → List Call → List Call
with_run first [] calls = calls
with_run first (bytes ∷ run) calls = with_run (first + 1) run (read_call first 4096 bytes ∷ calls)
