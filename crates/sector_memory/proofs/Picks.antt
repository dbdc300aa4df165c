use Rattle.std.proofs.Common.{◌≡◌, ◌+◌, ◌<◌, ℕ, zero, suc, Bool, true, false, List, [], ◌∷◌, length, take, get_or, cond, nat_eq, refl, arith, add-one}
use Rattle.{sector_device.specs.claim.Disk.Image, sector_memory.specs.Memory.{last_pick, after_stop, after_pick}}

last_more : (picks : List (ℕ × List ℕ)) (k i : ℕ) (bytes : List ℕ) → k < length picks → last_pick (take (suc k) picks) i bytes ≡ cond (nat_eq i (get_or picks k (0, [])).0) (get_or picks k (0, [])).1 (last_pick (take k picks) i bytes)
last_more [] k i bytes lt = absurd (omega arith)
last_more (pick ∷ picks) zero i bytes lt = refl
last_more (pick ∷ picks) (suc k) i bytes lt = last_more picks k i (cond (nat_eq i pick.0) pick.1 bytes) (omega arith)

-- one pick more
pub stop_more : (picks : List (ℕ × List ℕ)) (k : ℕ) (unsynced : List Bool) (reads now : Image) (i : ℕ) → k < length picks → now i ≡ after_stop (take k picks) unsynced reads i → after_pick (get_or picks k (0, [])) unsynced now i ≡ after_stop (take (k + 1) picks) unsynced reads i
stop_more picks k unsynced reads now i lt was = rw add-one (cases (get_or unsynced i false) was)
  where
    cases : (b : Bool) → now i ≡ cond b (last_pick (take k picks) i (reads i)) (reads i) → cond b (cond (nat_eq i (get_or picks k (0, [])).0) (get_or picks k (0, [])).1 (now i)) (now i) ≡ cond b (last_pick (take (suc k) picks) i (reads i)) (reads i)
    cases true was = rw (was, last_more picks k i (reads i) lt) refl
    cases false was = was
