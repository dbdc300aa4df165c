-- The heights of trees.
use Rattle.std.specs.Prelude.{◌≡◌, ◌≤◌, ℕ, suc, max}

-- they differ by one at most
abbrev pub AreLevel : ℕ → ℕ → Type 0
AreLevel left right = (left ≤ suc right) × (right ≤ suc left)

-- they differ by two at most
abbrev pub AreNear : ℕ → ℕ → Type 0
AreNear left right = (left ≤ suc (suc right)) × (right ≤ suc (suc left))

-- a tree has one level more than the higher one of its sides, whose heights differ by one at most
pub record IsBalanced (left right height : ℕ) : Type 0 where
  pub level : AreLevel left right
  pub high : height ≡ suc (max left right)

-- the height of a balanced tree of what two trees hold, which differ by two at most
pub record IsAround (left right height : ℕ) : Type 0 where
  pub least : max left right ≤ height
  pub most : height ≤ suc (max left right)
  pub level : AreLevel left right → height ≡ suc (max left right)

-- the height after a plan has come
abbrev pub IsRaised : ℕ → ℕ → Type 0
IsRaised old new = (old ≤ new) × (new ≤ suc old)

-- the height after a plan is gone
abbrev pub IsLowered : ℕ → ℕ → Type 0
IsLowered old new = (new ≤ old) × (old ≤ suc new)
