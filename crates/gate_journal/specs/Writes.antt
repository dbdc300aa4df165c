-- What no promise rests on, beside claim/Writes.antt.
use Rattle.std.{specs.Prelude.{◌≡◌, ◌≢◌, ◌<◌, ℕ, List, [], length, min, vec_capacity}, proofs.Common.get_or}
use Rattle.{gate_journal.specs.{claim.Store.{overlay, put}, declared.writes.PageWrites.PageWrites}, sector_device.specs.claim.Disk.Image}

-- so many pages are held with no growth
abbrev pub room_of : PageWrites → ℕ
room_of w = min (vec_capacity w.numbers) (vec_capacity w.list)

-- the k-th write is the last of the page
pub record IsLast (ws : List (ℕ × List ℕ)) (page k : ℕ) : Type 0 where
  pub below : k < length ws
  pub here : (get_or ws k (0, [])).0 ≡ page
  pub later : (j : ℕ) → k < j → j < length ws → (get_or ws j (0, [])).0 ≢ page

-- a written page was changed by a step that tells something, and no other page
pub record IsEdited {R : Type 0} (step : List ℕ → R → List ℕ → Type 0) (told : R) (old new : List (ℕ × List ℕ)) (page : ℕ) : Type 0 where
  pub before : List ℕ
  pub after : List ℕ
  pub before_is : (P : Image) → overlay old P page ≡ before
  pub steps : step before told after
  pub put_is : (P : Image) (p : ℕ) → overlay new P p ≡ put (page, after) (overlay old P) p
