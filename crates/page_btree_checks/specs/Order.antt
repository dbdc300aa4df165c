-- The bounds of a node's entries, and keys that rise within them.
use Rattle.std.{specs.{List.AllByRecursion, Prelude.{◌<◌, ℕ, List, [], ◌∷◌, length, drop, Option, Some}}, proofs.Common.{zero, suc}}
use Rattle.page_btree_gets.specs.{claim.Keys.{IsBetween, Parts}, node.{Entries.key_at, claim.{Entries.Entry, Places.Rises}}}

-- an entry's keys are from its own on, and those of the first from the node's lower bound on
abbrev pub lower_of : List ℕ → List Entry → ℕ → List ℕ
lower_of low es zero = low
lower_of low es (suc k) = key_at es (suc k)

-- and below the key of the entries after it, or, of the last, below the node's upper bound
abbrev pub next_key : Option (List ℕ) → List Entry → Option (List ℕ)
next_key high [] = high
next_key high (e ∷ es) = Some e.0

abbrev pub upper_of : Option (List ℕ) → List Entry → ℕ → Option (List ℕ)
upper_of high es k = next_key high (drop (suc k) es)

-- rows of a leaf
pub record AreRows (low : List ℕ) (high : Option (List ℕ)) (es : List Entry) : Type 0 where
  pub rises : Rises es
  pub within : AllByRecursion (λ e. IsBetween low high e.0) es
  pub some : 0 < length es

-- entries of a node above
pub record AreParts (low : List ℕ) (high : Option (List ℕ)) (es : List Entry) : Type 0 where
  pub some : 0 < length es
  pub parts : (k : ℕ) → suc k < length es → Parts (lower_of low es k) high (key_at es (suc k))

abbrev pub IsOrdered : List ℕ → Option (List ℕ) → ℕ → List Entry → Type 0
IsOrdered low high zero es = AreRows low high es
IsOrdered low high (suc d) es = AreParts low high es
