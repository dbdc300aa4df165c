-- What the units' state holds while the words of a neighbour file are read.
use Rattle.std.specs.Prelude.{◌≡◌, ℕ, ◌<◌, ◌≤◌, true, false, List, [], ◌∷◌, ◌++◌, length, drop, vec_len, get_or, All, Option, Some, None, Result, Ok, Err, ⊤}
use Rattle.{desk_model.specs.{claim.Geography.{ids_of, id_at}, declared.block.BlockRow.BlockRow}, gal_text.specs.declared.{fault.TextFault.TextFault, units.Awaited.Awaited}}
use Rattle.gal_text.specs.{claim.Units.{Progress, has_number, lists, block_of, neighbours_left, word_read}, declared.units.{Graph.Graph, Link.Link, UnitRefusal.UnitRefusal}}
use Rattle.gal_text.specs.declared.units.Awaited.TheVariants as awaited
use Rattle.gal_text.specs.declared.units.UnitRefusal.TheVariants as refusal

-- what the unit lists stands among the links from this place on
abbrev pub ListsFrom : List Link → ℕ → ℕ → Type 0
ListsFrom links first unit = (x : ℕ) → lists (drop first links) unit x ≡ lists links unit x

-- each link is from a unit
abbrev pub AreFromUnits : List ℕ → List Link → Type 0
AreFromUnits units links = All (λ l. has_number units l.from ≡ true) links

-- this is a unit, and its links begin at this place
pub record IsAtHand (units : List ℕ) (links : List Link) (first unit : ℕ) : Type 0 where
  pub is_unit : has_number units unit ≡ true
  pub lists_from : ListsFrom links first unit

-- the same of the unit at hand, where there is one
abbrev pub HasUnit : List ℕ → List Link → ℕ → Awaited → Type 0
HasUnit units links first awaited.Block = Unit {0}
HasUnit units links first (awaited.Count unit) = IsAtHand units links first unit
HasUnit units links first (awaited.Neighbour unit left) = IsAtHand units links first unit

-- the state is this progress
pub record Holds (blocks : List BlockRow) (graph : Graph) (p : Progress) : Type 0 where
  pub left : graph.left ≡ p.left
  pub next : graph.next ≡ p.next
  pub links : graph.links.items ≡ p.links
  pub marked : vec_len graph.seen ≡ length blocks
  pub marks : (place : ℕ) → place < length blocks → get_or graph.seen.items place false ≡ has_number p.units (id_at blocks place)
  pub begins : graph.first ≤ vec_len graph.links
  pub at_hand : HasUnit p.units p.links graph.first p.next
  pub from_units : AreFromUnits p.units p.links

-- the state is some progress
abbrev pub IsHeld : List BlockRow → Graph → Type 0
IsHeld blocks graph = (p : Progress) × Holds blocks graph p

-- one more link, and so many neighbours are left behind it
abbrev pub with_link : Progress → Link → ℕ → Progress
with_link p link left = record { left = p.left; next = neighbours_left link.from left; units = p.units; links = p.links ++ link ∷ [] }

-- the word names the block at this place, or none
abbrev pub IsPlaced : List BlockRow → List ℕ → Option (ℕ × ℕ) → Type 0
IsPlaced blocks word None = block_of (ids_of blocks) word ≡ None
IsPlaced blocks word (Some p) = (block_of (ids_of blocks) word ≡ Some p.1) × (p.0 < length blocks) × (id_at blocks p.0 ≡ p.1)

-- the answer is what is said, and the state holds the progress
abbrev pub Meets : List BlockRow → Result Progress TextFault → Result (Unit {0}) UnitRefusal → Graph → Type 0
Meets blocks said (Ok u) new = (p : Progress) × (said ≡ Ok p) × Holds blocks new p
Meets blocks said (Err (refusal.Fault f)) new = said ≡ Err f
Meets blocks said (Err refusal.Memory) new = ⊤

-- one more word of this number is taken, or it has a fault
abbrev pub Takes : List BlockRow → Progress → ℕ → List ℕ → Result (Unit {0}) UnitRefusal → Graph → Type 0
Takes blocks p number word result new = Meets blocks (word_read (ids_of blocks) p number word) result new
