-- The disk of a device that knows what it held: in memory, or after what a file was told.
use Rattle.std.{specs.Prelude.{◌≡◌, ◌⊎◌, ◌≤◌, ◌<◌, ◌^◌, ℕ, Bool, false, List, [], ◌∷◌, length, cond, ◌+◌}, proofs.Common.{get_or, inl, inr, refl, arith}}
use Rattle.sector_device.specs.claim.Disk.{Disk, Image}

-- the sectors, for each whether it was written since the last sync, and whether the next call was refused
abbrev pub State : Type 0
State = List (List ℕ) × List Bool × Bool

-- how many calls were refused
abbrev pub refused : List State → ℕ
refused [] = 0
refused (state ∷ states) = cond state.2 (refused states + 1) (refused states)

-- the sectors by their index
abbrev pub image_of : List (List ℕ) → Image
image_of sectors i = get_or sectors i []

-- A stop leaves each sector that was not written since the last sync. Of the others nothing is known, not even their length.
abbrev pub Leaves : List (List ℕ) → List Bool → Image → Type 0
Leaves sectors unsynced c = (i : ℕ) → get_or unsynced i false ≡ false → c i ≡ get_or sectors i []

-- one of the states since a moment leaves this. The newest state comes first.
abbrev pub HadLeft : List State → ℕ → Image → Type 0
HadLeft [] t c = ⊥
HadLeft (state ∷ states) t c = ((t ≤ length states) × Leaves state.0 state.1 c) ⊎ HadLeft states t c

-- none is later than the last
none_later : (states : List State) (t : ℕ) (c : Image) → length states ≤ t → HadLeft states t c → ⊥
none_later [] t c late had = had
none_later (state ∷ states) t c late (inl here) = let le : t ≤ length states = here.0 in omega arith
none_later (state ∷ states) t c late (inr there) = none_later states t c (omega arith) there

pub only_now : (sectors : List (List ℕ)) (unsynced : List Bool) (states : List State) (c : Image)
    → Leaves sectors unsynced c ⊎ HadLeft states (length states) c → Leaves sectors unsynced c
only_now sectors unsynced states c (inl now) = now
only_now sectors unsynced states c (inr had) = absurd (none_later states (length states) c (omega arith) had)

-- a device with these sectors and this past
abbrev pub disk_from : (honest : Type 0) (sectors : List (List ℕ)) → length sectors < 2 ^ 32 → List Bool → List State → Disk
disk_from honest sectors few unsynced states = record {
  few = few;
  sectors = length sectors;
  reads = image_of sectors;
  leaves = Leaves sectors unsynced;
  moment = length states;
  left = λ t c. Leaves sectors unsynced c ⊎ HadLeft states t c;
  faults = refused states;
  is_honest = honest;
  as_read = λ i _. refl;
  counts_now = λ t c le now. inl now;
  only_now = λ c left. only_now sectors unsynced states c left;
}
