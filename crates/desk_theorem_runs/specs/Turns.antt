-- What a turn of sweeping comes to.
use Rattle.std.specs.Prelude.{ℕ, ◌==◌, Bool, true, false, Option, Some, None, Result, Ok, Err}
use Rattle.{desk_store_pages.specs.declared.error.StoreError.{StoreError, TheVariants.{Memory, NotAStore}}, desk_theorem_runs.specs.declared.turning.Swept.Swept}
use Rattle.desk_theorem_runs.specs.declared.turning.Swept.TheVariants.{Again, Unsound, Over}

-- others may follow, but where the device failed, or the rows are none that a desk leaves
abbrev pub swept_of : (moves : ℕ) → Result (Option ℕ) StoreError → Swept
swept_of moves (Ok did) = Again moves
swept_of moves (Err Memory) = Again moves
swept_of moves (Err NotAStore) = Unsound
swept_of moves (Err _) = Over

-- the next one waits for a further deleted plan: no row is left, or memory was refused
abbrev pub leaves_none : Result (Option ℕ) StoreError → Bool
leaves_none (Ok None) = false
leaves_none (Ok (Some count)) = count == 0
leaves_none (Err Memory) = true
leaves_none (Err _) = false

-- after how many moves the next one follows, where one does
abbrev pub next_of : Swept → Option ℕ
next_of (Again moves) = Some moves
next_of Unsound = None
next_of Over = None
