-- What a file holds, by what it held as it was opened, what it was told and what it answered.
use Rattle.std.specs.Prelude.{◌≡◌, ◌<◌, ◌+◌, ◌^◌, ℕ, zero, suc, Bool, true, false, List, [], ◌∷◌, length, cond, ◌&&◌, ◌||◌, IsTrue, slice_index, replicate}
use Rattle.{std.proofs.Common.{get_or, set, nat_eq}, sector_device.specs.{Held.{State, disk_from}, claim.Disk.Disk}}

-- the sectors, which of them were written since the last sync, the states before, and whether each sector that was read was
-- as it is here
abbrev pub Told : Type 0
Told = List (List ℕ) × List Bool × List State × Bool

abbrev pub untold : Told
untold = ([], [], [], true)

-- a call of the system with its answer: numbers, and the bytes that came or went
abbrev pub Call : Type 0
Call = List ℕ × List ℕ

abbrev pub same_bytes : List ℕ → List ℕ → Bool
same_bytes [] [] = true
same_bytes [] (y ∷ ys) = false
same_bytes (x ∷ xs) [] = false
same_bytes (x ∷ xs) (y ∷ ys) = nat_eq x y && same_bytes xs ys

-- so many sectors of a file as it was opened, from one on
abbrev pub held_from : (ℕ → List ℕ) → ℕ → ℕ → List (List ℕ)
held_from sector i zero = []
held_from sector i (suc n) = sector i ∷ held_from sector (i + 1) n

abbrev pub first_held : (ℕ → List ℕ) → ℕ → List (List ℕ)
first_held sector count = held_from sector 0 count

-- a file was opened: none of its sectors is known to be on the disk
abbrev pub after_opening : (ℕ → List ℕ) → ℕ → Told
after_opening sector count = (first_held sector count, replicate count true, [], true)

abbrev pub after_read : Told → ℕ → List ℕ → Told
after_read t i bytes = (t.0, t.1, t.2, t.3 && same_bytes bytes (get_or t.0 i []))

abbrev pub after_write : Told → ℕ → List ℕ → Told
after_write t i bytes = (set t.0 i bytes, set t.1 i true, (t.0, t.1, false) ∷ t.2, t.3)

abbrev pub after_sync : Told → Told
after_sync t = (t.0, replicate (length t.0) false, (t.0, t.1, false) ∷ t.2, t.3)

-- a call failed that wrote nothing
abbrev pub after_fault : Told → Told
after_fault t = (t.0, t.1, (t.0, t.1, true) ∷ t.2, t.3)

-- a write failed: the sector may be torn
abbrev pub after_torn : Told → ℕ → Told
after_torn t i = (t.0, set t.1 i true, (t.0, t.1, true) ∷ t.2, t.3)

-- one call, by its kind and its answer: a read or a write is good where it is of a whole sector
abbrev pub step : (ℕ → List ℕ) → Told → List ℕ → List ℕ → Told
step sector t numbers bytes =
    cond (nat_eq (slice_index numbers 0) 0)
    (cond (nat_eq (slice_index numbers 2) 4096) (after_read t (slice_index numbers 1) bytes) (after_fault t))
    (cond (nat_eq (slice_index numbers 0) 1)
    (cond (nat_eq (slice_index numbers 2) 4096) (after_write t (slice_index numbers 1) bytes) (after_torn t (slice_index numbers 1)))
    (cond (nat_eq (slice_index numbers 0) 2) (after_sync t)
    (cond (nat_eq (slice_index numbers 0) 3) (after_fault t)
    (after_opening sector (slice_index numbers 1)))))

-- all calls, the last first, on a file that held these sectors
abbrev pub replay : (ℕ → List ℕ) → List Call → Told
replay sector [] = untold
replay sector (call ∷ calls) = step sector (replay sector calls) call.0 call.1

-- later calls, the last first, on what was told before
abbrev pub replay_on : (ℕ → List ℕ) → Told → List Call → Told
replay_on sector t [] = t
replay_on sector t (call ∷ calls) = step sector (replay_on sector t calls) call.0 call.1

abbrev pub read_call : ℕ → ℕ → List ℕ → Call
read_call i got bytes = (0 ∷ i ∷ got ∷ [], bytes)

-- a call failed that wrote nothing
abbrev pub failed_call : Call
failed_call = (3 ∷ [], [])

-- reads, and calls that failed and wrote nothing
abbrev pub only_reads : List Call → Bool
only_reads [] = true
only_reads (call ∷ calls) = (nat_eq (slice_index call.0 0) 0 || nat_eq (slice_index call.0 0) 3) && only_reads calls

-- the file is as it was opened, and all of it is on the disk
abbrev pub IsAsOpened : (ℕ → List ℕ) → ℕ → Told → Type 0
IsAsOpened sector count t = (t.0 ≡ first_held sector count) × (t.1 ≡ replicate count false)

-- a file that is so was shared
abbrev pub after_sharing : (ℕ → List ℕ) → ℕ → Told
after_sharing sector count = (first_held sector count, replicate count false, [], true)

abbrev pub told_disk : (t : Told) → length t.0 < 2 ^ 32 → Disk
told_disk t few = disk_from (IsTrue t.3) t.0 few t.1 t.2
