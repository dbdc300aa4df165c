-- What stands in the rows of a load, from the first place on.
use Rattle.std.specs.{FinMap.get as row_at, Prelude.{◌≡◌, ◌<◌, ◌^◌, ℕ, List, [], ◌∷◌, ◌++◌, length, All, Option, Some, None}}
use Rattle.{desk_model.specs.{claim.{Geography.GeographyModel, GeographyModels.IsGeographyModel}, declared.geography.Pair.Pair}, desk_store_pages.specs.Looking.IsOnly}
use Rattle.{desk_store_pages.specs.Reading.StandsAs, desk_store_rows.specs.claim.{GeographyRows.{IsBlockRow, neighbours_bytes}, Keys.{key_of, block, pair, seal}}}
use Rattle.desk_store_rows.specs.{claim.{Rows.{KeyMap, Lacks, element_row}, Values.{block_bytes, seal_bytes}}, declared.value.SealRow.SealRow}
use Rattle.page_btree.specs.gets.declared.error.TreeError.{TreeError, TheVariants.{NotAStore, Memory}}

-- the places of a pair fit in its row
pub record IsPairRow (p : Pair) : Type 0 where
  pub first_fits : p.first < 2 ^ 32
  pub second_fits : p.second < 2 ^ 32

-- the row with this key holds the element
pub record HoldsElement {X : Type 0} (bytes_of : X → List ℕ) (fits : X → Type 0) (key : List ℕ) (m : KeyMap) (x : X) : Type 0 where
  pub fit : fits x
  pub row : row_at m key ≡ Some (bytes_of x)

-- so many elements stand in the rows of a load, each at its place
pub record HoldsElements {X : Type 0} (bytes_of : X → List ℕ) (fits : X
    → Type 0) (key_at : ℕ → List ℕ) (count : ℕ) (m : KeyMap) (xs : List X) : Type 0 where
  pub long : length xs ≡ count
  pub fit : All fits xs
  pub rows : (place : ℕ) → place < count → row_at m (key_at place) ≡ element_row bytes_of xs place

-- the one element of which it is so was appended
pub record AddsOne {X : Type 0} (is : X → Type 0) (before after : List X) : Type 0 where
  pub x : X
  pub one : IsOnly is x
  pub added : after ≡ before ++ x ∷ []

-- bytes hold an element
abbrev pub IsIn : {X : Type 0} → (X → List ℕ) → (X → Type 0) → List ℕ → X → Type 0
IsIn bytes_of fits bytes x = fits x × (bytes_of x ≡ bytes)

-- why no element is appended of a value: none has these bytes, or a growth was refused
abbrev pub ValueErr : {X : Type 0} → (X → Type 0) → TreeError → Type 0
ValueErr {X} is NotAStore = (x : X) → is x → ⊥
ValueErr {X} is Memory = Unit {0}
ValueErr {X} is _ = ⊥

-- why blocks and pairs make no geography: they are none, or a growth was refused
abbrev pub GeographyErr : GeographyModel → TreeError → Type 0
GeographyErr g NotAStore = IsGeographyModel g → ⊥
GeographyErr g Memory = Unit {0}
GeographyErr g _ = ⊥

-- the geography whose rows a seal tells
pub record IsSealedAs (sealed : SealRow) (m : KeyMap) (g : GeographyModel) : Type 0 where
  pub sound : IsGeographyModel g
  pub blocks : HoldsElements block_bytes IsBlockRow (λ place. key_of (block sealed.load place)) sealed.blocks m g.blocks
  pub pairs : HoldsElements neighbours_bytes IsPairRow (λ place. key_of (pair sealed.load place)) sealed.pairs m g.pairs

-- the rows of the load that a seal names hold these blocks and pairs, so many
pub record IsSealRead (sealed : SealRow) (m : KeyMap) (g : GeographyModel) : Type 0 where
  pub blocks : HoldsElements block_bytes IsBlockRow (λ place. key_of (block sealed.load place)) sealed.blocks m g.blocks
  pub pairs : HoldsElements neighbours_bytes IsPairRow (λ place. key_of (pair sealed.load place)) sealed.pairs m g.pairs

-- a geography was read of the rows that a seal names, or none where there is no seal
abbrev pub IsGeographyRead : KeyMap → Option GeographyModel → Type 0
IsGeographyRead m None = Lacks m seal
IsGeographyRead m (Some g) = (sealed : SealRow) × StandsAs seal_bytes (key_of seal) m (Some sealed) × IsSealRead sealed m g

-- `reads` is so of what was read, and it is what the map says, where it says one
pub record IsReadBy {X : Type 0} (reads says : KeyMap → X → Type 0) (m : KeyMap) (x : X) : Type 0 where
  pub there : reads m x
  pub read : (y : X) → says m y → x ≡ y

-- the numbers of a seal fit in its row
pub record IsSealRow (sealed : SealRow) : Type 0 where
  pub load_fits : sealed.load < 2 ^ 64
  pub blocks_fit : sealed.blocks < 2 ^ 32
  pub pairs_fit : sealed.pairs < 2 ^ 32
