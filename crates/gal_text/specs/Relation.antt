-- Which words are those of a neighbour file's units, in one view of all of them.
use Rattle.std.specs.{List.{AllZip, IsDistinct, flat_map}, Prelude.{◌≡◌, ℕ, ◌≤◌, ◌↔◌, List, ◌∷◌, length, map, All, Contains, nat_eq, Some, Ok}}
use Rattle.{field_text.specs.claim.Digits.{number_of, number_of_digits}, gal_text.specs.claim.Units.{Progress, at_start, at_end, go_on, link_of, neighbour_limit, words_read}}
use Rattle.gal_text.specs.declared.units.{Awaited.TheVariants.Block, Link.Link}

-- a unit: its block, and the blocks that it lists
pub record Listing : Type 0 where
  pub block : ℕ
  pub neighbours : List ℕ

-- the blocks are known, and the unit lists no more of them than the limit, each once, and not its own
pub record IsListing (ids : List ℕ) (u : Listing) : Type 0 where
  pub known : Contains ids u.block
  pub neighbours_known : All (Contains ids) u.neighbours
  pub few : length u.neighbours ≤ neighbour_limit
  pub different : IsDistinct nat_eq u.neighbours
  pub others : ¬ Contains u.neighbours u.block

-- each word writes its number in 15 digits
abbrev pub AreNames : List ℕ → List (List ℕ) → Type 0
AreNames numbers ws = AllZip (λ number word. number_of_digits 15 word ≡ Some number) numbers ws

-- the words of a unit: its block, the number of its neighbours, and their blocks
pub record IsWritten (u : Listing) (ws : List (List ℕ)) : Type 0 where
  pub name : List ℕ
  pub count : List ℕ
  pub names : List (List ℕ)
  pub words_are : ws ≡ name ∷ count ∷ names
  pub name_is : number_of_digits 15 name ≡ Some u.block
  pub count_is : number_of 10 count ≡ Some (length u.neighbours)
  pub names_are : AreNames u.neighbours names

-- the words of all units, one unit after the other
pub record AreWritten (units : List Listing) (ws : List (List ℕ)) : Type 0 where
  pub parts : List (List (List ℕ))
  pub cut : ws ≡ flat_map (λ part. part) parts
  pub each : AllZip IsWritten units parts

abbrev pub blocks_of : List Listing → List ℕ
blocks_of units = map (λ u. u.block) units

abbrev pub links_of : List Listing → List Link
links_of units = flat_map (λ u. map (link_of u.block) u.neighbours) units

-- the words are those of so many units, all different
pub record AreUnits (ids : List ℕ) (n : ℕ) (ws : List (List ℕ)) (units : List Listing) : Type 0 where
  pub count : length units ≡ n
  pub each : All (IsListing ids) units
  pub different : IsDistinct nat_eq (blocks_of units)
  pub written : AreWritten units ws

-- what units say, with nothing left
abbrev pub said : List Listing → Progress
said units = record { left = 0; next = Block; units = blocks_of units; links = links_of units }

pub record IsSaid (ids : List ℕ) (n : ℕ) (ws : List (List ℕ)) (p : Progress) : Type 0 where
  pub listings : List Listing
  pub are : AreUnits ids n ws listings
  pub is : p ≡ said listings

-- the words are read to their end exactly where they are those of units, and as what these say
abbrev pub UnitsLaw : Type 0
UnitsLaw =
    (ids : List ℕ) (n : ℕ) (ws : List (List ℕ)) (p : Progress) → (go_on (words_read ids (at_start n) 1 ws) at_end ≡ Ok p) ↔ IsSaid ids n ws p
