-- The first pairs of a query.
use Rattle.std.specs.{Borrow.Bor, Prelude.{◌≡◌, ◌≢◌, ℕ, List, [], ◌∷◌, length, Option, Some, None}}
use Rattle.form_urlencoded.specs.Form.{pair_text}

-- two pairs of references are all that there is
abbrev pub HasTwo : List (List ℕ × List ℕ) → Option ((Bor (List ℕ) × Bor (List ℕ)) × (Bor (List ℕ) × Bor (List ℕ))) → Type 0
HasTwo pairs None = length pairs ≢ 2
HasTwo pairs (Some two) = pairs ≡ pair_text two.0 ∷ pair_text two.1 ∷ []

-- one pair is all that there is
abbrev pub HasOne : List (List ℕ × List ℕ) → Option (Bor (List ℕ) × Bor (List ℕ)) → Type 0
HasOne pairs None = length pairs ≢ 1
HasOne pairs (Some one) = pairs ≡ pair_text one ∷ []
