-- What units list, as a symmetric set of pairs.
use Rattle.std.specs.Prelude.{◌≡◌, ℕ, ◌<◌, ◌≤◌, ◌⊎◌, List, [], ◌∷◌, All, Contains}
use Rattle.gal_text.specs.{claim.Units.link_of, declared.units.Link.Link}

-- the unit lists the block
abbrev pub Lists : List Link → ℕ → ℕ → Type 0
Lists links unit other = Contains links (link_of unit other)

-- every block is a unit
abbrev pub AreComplete : List ℕ → List ℕ → Type 0
AreComplete ids units = All (Contains units) ids

-- the least block that is no unit
pub record IsLeastMissing (ids units : List ℕ) (id : ℕ) : Type 0 where
  pub known : Contains ids id
  pub missing : ¬ Contains units id
  pub least : All (λ x. ¬ Contains units x → id ≤ x) ids

-- a block that is listed lists the unit too
abbrev pub AreMutual : List Link → Type 0
AreMutual links = (a b : ℕ) → Lists links a b → Lists links b a

-- the first lists the second, which doesn't list it
pub record IsOneWay (links : List Link) (a b : ℕ) : Type 0 where
  pub there : Lists links a b
  pub back : ¬ Lists links b a

-- the same, of the least first and then the least second
pub record IsLeastOneWay (links : List Link) (a b : ℕ) : Type 0 where
  pub one_way : IsOneWay links a b
  pub least : (x y : ℕ) → IsOneWay links x y → (a < x) ⊎ ((a ≡ x) × (b ≤ y))

-- a pair of neighbours, the smaller number first
pub record IsPairOf (links : List Link) (p : ℕ × ℕ) : Type 0 where
  pub rising : p.0 < p.1
  pub listed : Lists links p.0 p.1

-- one pair stands before another
abbrev pub Precedes : ℕ × ℕ → ℕ × ℕ → Type 0
Precedes p q = (p.0 < q.0) ⊎ ((p.0 ≡ q.0) × (p.1 < q.1))

abbrev pub AreRising : List (ℕ × ℕ) → Type 0
AreRising [] = Unit {0}
AreRising (p ∷ more) = All (Precedes p) more × AreRising more

-- each unordered pair once, the smaller number first, rising
pub record ArePairsOf (links : List Link) (pairs : List (ℕ × ℕ)) : Type 0 where
  pub rising : AreRising pairs
  pub listed : All (IsPairOf links) pairs
  pub all : (p : ℕ × ℕ) → IsPairOf links p → Contains pairs p
