-- A set of numbers in words of 64.
use Rattle.std.specs.{BTreeMap.get, Int.bit_at, Ordering.nat_cmp, Prelude.{◌≡◌, ℕ, ◌/◌, ◌%◌, Bool, not, ◌||◌, ◌==◌, if◌then◌else◌, nat_eq, unwrap_or}}
use Rattle.pl94_geo.specs.declared.number_set.NumberSet.{NumberSet}

-- the word that was put away at a place
abbrev pub other_word : NumberSet → ℕ → ℕ
other_word s p = unwrap_or (get nat_cmp s.others p) 0

-- the word of a place: the one at hand, or one that was put away
abbrev pub word_at : NumberSet → ℕ → ℕ
word_at s p = if s.place == p then s.word else other_word s p

-- the set has the number
unfoldable pub has : NumberSet → ℕ → Bool
has s n = bit_at (word_at s (n / 64)) (n % 64) == 1

-- the word of the place is at hand, and each word is what it was
pub record TurnsTo (old new : NumberSet) (place : ℕ) : Type 0 where
  pub at : new.place ≡ place
  pub words : (p : ℕ) → word_at new p ≡ word_at old p

-- whether the number is new, and what the set has with it
pub record Inserts (old new : NumberSet) (number : ℕ) (is_new : Bool) : Type 0 where
  pub told : is_new ≡ not (has old number)
  pub grown : (n : ℕ) → has new n ≡ (nat_eq number n || has old n)
