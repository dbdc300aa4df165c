-- How links become pairs: those to greater blocks and those to less are put in order and compared.
use Rattle.std.specs.Prelude.{◌≡◌, ℕ, ◌<◌, ◌↔◌, Bool, false, ◌&&◌, ◌||◌, ◌==◌, nat_lt, if◌then◌else◌, List, All, Contains, Option, Some, None, MatchOption}
use Rattle.gal_text.specs.{claim.Links.{Lists, IsOneWay, IsPairOf, AreRising}, declared.units.Link.Link}

-- a link to a greater block, and one to a less block turned round
abbrev pub upward_pair : Link → Option (ℕ × ℕ)
upward_pair l = if nat_lt l.from l.to then Some (l.from, l.to) else None

abbrev pub downward_pair : Link → Option (ℕ × ℕ)
downward_pair l = if nat_lt l.to l.from then Some (l.to, l.from) else None

-- the greater block of a pair lists the smaller
pub record IsPairBack (links : List Link) (p : ℕ × ℕ) : Type 0 where
  pub rising : p.0 < p.1
  pub listed : Lists links p.1 p.0

-- the pairs that the smaller block lists, and those that the greater lists, each once and rising
pub record AreCut (links : List Link) (up down : List (ℕ × ℕ)) : Type 0 where
  pub up_rising : AreRising up
  pub up_are : (p : ℕ × ℕ) → Contains up p ↔ IsPairOf links p
  pub down_rising : AreRising down
  pub down_are : (p : ℕ × ℕ) → Contains down p ↔ IsPairBack links p

-- one link stands before another, by the unit and then by its neighbour
abbrev pub is_before : Link → Link → Bool
is_before l m = nat_lt l.from m.from || ((l.from == m.from) && nat_lt l.to m.to)

-- of the links that were looked at, this one is one way, and the least such
pub record IsLeastSeen (links seen : List Link) (l : Link) : Type 0 where
  pub one_way : IsOneWay links l.from l.to
  pub least : All (λ m. IsOneWay links m.from m.to → is_before m l ≡ false) seen

abbrev pub IsLeastOrNone : List Link → List Link → Option Link → Type 0
IsLeastOrNone links seen o = MatchOption o (All (λ m. ¬ IsOneWay links m.from m.to) seen) (IsLeastSeen links seen)
