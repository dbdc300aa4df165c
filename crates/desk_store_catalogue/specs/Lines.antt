-- A row that is written from its end on.
use Rattle.std.specs.Prelude.{◌≡◌, ℕ, ◌+◌, ◌≤◌, ◌++◌, List, length, take, drop, replicate}

-- there is room for a number before the end, and zeros alone
pub record HasZeros (row : List ℕ) (end : ℕ) : Type 0 where
  pub low : 20 ≤ end
  pub within : end ≤ length row
  pub zeros : take end row ≡ replicate end 48

-- the text is written before the end, of ten bytes at most, and before it the row has zeros still
pub record IsWritten (text : List ℕ) (end : ℕ) (old new : List ℕ) (start : ℕ) : Type 0 where
  pub before : start ≤ end
  pub few : end ≤ start + 10
  pub written : drop start new ≡ text ++ drop end old
  pub zeros : take start new ≡ replicate start 48
