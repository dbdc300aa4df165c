-- The first block or pair in which the geography of a store differs from what census files say.
use Rattle.std.specs.Prelude.{◌≡◌, ◌≢◌, ◌⊎◌, ◌<◌, IsTrue, List, [], ◌∷◌, ◌++◌, Option, Some, None}
use Rattle.{census_difference.specs.declared.difference.Difference.Difference, desk_model.specs.claim.{Geography.GeographyModel, GeographyModels.{is_before, pair_ids}}}
use Rattle.census_difference.specs.declared.difference.Difference.TheVariants.{NotSealed, MissingBlock, ExtraBlock, OtherCity, OtherPopulation, MissingPair, ExtraPair}
use Rattle.desk_model.specs.declared.{block.BlockRow.BlockRow, geography.Pair.Pair}

-- Two blocks, the store's first, where all blocks before them are equal: the lower number is not in the other list, or their cities differ,
-- or only their populations do.
abbrev pub BlockDiffers : Difference → (stored said : BlockRow) → Type 0
BlockDiffers (ExtraBlock id) stored said = (id ≡ stored.id) × (stored.id < said.id)
BlockDiffers (MissingBlock id) stored said = (id ≡ said.id) × (said.id < stored.id)
BlockDiffers (OtherCity id) stored said = (id ≡ stored.id) × (id ≡ said.id) × (stored.city ≢ said.city)
BlockDiffers (OtherPopulation id) stored said = (id ≡ stored.id) × (id ≡ said.id) × (stored.city ≡ said.city) × (stored.population ≢ said.population)
BlockDiffers _ stored said = ⊥

-- two pairs: the lower one is not in the other list, and is named by the numbers of its blocks
abbrev pub PairDiffers : List BlockRow → Difference → (stored said : Pair) → Type 0
PairDiffers blocks (ExtraPair one other) stored said = ((one, other) ≡ pair_ids blocks stored) × IsTrue (is_before stored said)
PairDiffers blocks (MissingPair one other) stored said = ((one, other) ≡ pair_ids blocks said) × IsTrue (is_before said stored)
PairDiffers blocks _ stored said = ⊥

-- one of the lists has ended
abbrev pub IsExtraBlock : Difference → BlockRow → Type 0
IsExtraBlock (ExtraBlock id) stored = id ≡ stored.id
IsExtraBlock _ stored = ⊥

abbrev pub IsMissingBlock : Difference → BlockRow → Type 0
IsMissingBlock (MissingBlock id) said = id ≡ said.id
IsMissingBlock _ said = ⊥

abbrev pub IsExtraPair : List BlockRow → Difference → Pair → Type 0
IsExtraPair blocks (ExtraPair one other) stored = (one, other) ≡ pair_ids blocks stored
IsExtraPair blocks _ stored = ⊥

abbrev pub IsMissingPair : List BlockRow → Difference → Pair → Type 0
IsMissingPair blocks (MissingPair one other) said = (one, other) ≡ pair_ids blocks said
IsMissingPair blocks _ said = ⊥

-- what follows equal fronts of the two lists, by what is said of two elements, and of one where the other list has ended
module _ {A : Type 0} (Both : A → A → Type 0) (Extra Missing : A → Type 0) where
  abbrev pub FollowsWith : (here there : List A) → Type 0
  FollowsWith [] [] = ⊥
  FollowsWith (a ∷ rest) [] = Extra a
  FollowsWith [] (b ∷ rest) = Missing b
  FollowsWith (a ∷ rest) (b ∷ more) = Both a b

  -- both lists begin alike, and then differ so
  pub record DiffersAfter (stored said : List A) : Type 0 where
    pub front : List A
    pub here : List A
    pub there : List A
    pub stored_is : stored ≡ front ++ here
    pub said_is : said ≡ front ++ there
    pub differ : FollowsWith here there

abbrev pub IsFirstBlock : (stored said : List BlockRow) → Difference → Type 0
IsFirstBlock stored said d = DiffersAfter (BlockDiffers d) (IsExtraBlock d) (IsMissingBlock d) stored said

abbrev pub IsFirstPair : List BlockRow → (stored said : List Pair) → Difference → Type 0
IsFirstPair blocks stored said d = DiffersAfter (PairDiffers blocks d) (IsExtraPair blocks d) (IsMissingPair blocks d) stored said

-- blocks differ so first; or all blocks are equal, and pairs differ so first
abbrev pub IsFirstOf : (stored said : GeographyModel) → Difference → Type 0
IsFirstOf stored said d = IsFirstBlock stored.blocks said.blocks d ⊎ ((stored.blocks ≡ said.blocks) × IsFirstPair said.blocks stored.pairs said.pairs d)

-- What a comparison of a store's geography with this one comes to: it is this one; or this is the first difference, and a store without a
-- geography is named as such.
abbrev pub DiffersFrom : (stored : Option GeographyModel) → (said : GeographyModel) → Option Difference → Type 0
DiffersFrom stored said None = stored ≡ Some said
DiffersFrom None said (Some d) = d ≡ NotSealed
DiffersFrom (Some stored) said (Some d) = IsFirstOf stored said d
