-- What a device holds, what a stop may leave of it, and what its calls do to both.
use Rattle.std.specs.Prelude.{◌≡◌, ◌⊎◌, ◌<◌, ◌≤◌, ◌^◌, ℕ, List}

-- the sectors of a device by their index
abbrev pub Image : Type 0
Image = ℕ → List ℕ

-- A device as contracts see it.
pub record Disk : Type 1 where
  -- how many sectors there are
  pub sectors : ℕ
  -- what a read gives
  pub reads : Image
  -- the images that a stop at this moment may leave
  pub leaves : Image → Type 0
  -- the moment, as a number that doesn't fall
  pub moment : ℕ
  -- the images that a stop at some moment from that one on might have left, during a call or between two
  pub left : ℕ → Image → Type 0
  -- how often the device has failed
  pub faults : ℕ
  -- the disk has kept to this model so far
  pub is_honest : Type 0
  pub few : sectors < 2 ^ 32
  -- as it reads, it is one of the images
  pub as_read : leaves reads
  -- this moment is one of those since an earlier one
  pub counts_now : (t : ℕ) (c : Image) → t ≤ moment → leaves c → left t c
  -- since this moment there is no other
  pub only_now : (c : Image) → left moment c → leaves c

-- the images agree on each sector outside these
pub record AgreeOff (S : ℕ → Type 0) (old new : Image) : Type 0 where
  pub same : (i : ℕ) → (S i → ⊥) → new i ≡ old i

-- an image that a stop may leave, but for these sectors
abbrev pub LeavesBut : (ℕ → Type 0) → Disk → Image → Type 0
LeavesBut S disk c = (d : Image) × disk.leaves d × AgreeOff S d c

-- From old to new nothing but these sectors was written, at any moment between.
pub record Touches (S : ℕ → Type 0) (old new : Disk) : Type 0 where
  pub was_honest : old.is_honest
  pub sectors : new.sectors ≡ old.sectors
  pub later : old.moment ≤ new.moment
  pub faults : old.faults ≤ new.faults
  pub reads : AgreeOff S old.reads new.reads
  pub since : (t : ℕ) (c : Image) → t ≤ old.moment → new.left t c → old.left t c ⊎ LeavesBut S old c
  pub keeps : (t : ℕ) (c : Image) → t ≤ old.moment → old.left t c → new.left t c

-- no sector, one sector
abbrev pub Nowhere : ℕ → Type 0
Nowhere i = ⊥
