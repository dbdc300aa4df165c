-- The seal tells the rows of its geography.
use Rattle.std.proofs.{Common.{◌≡◌, ◌-◌, ℕ, List, length, take, Option, Some, None, refl, sym, ap, subst, ◌∙◌, arith}, lemmas.{List.take_all, Option.same_Some}}
use Rattle.{desk_model.specs.{claim.Geography.GeographyModel, declared.{block.BlockRow.BlockRow, geography.Pair.Pair}}, desk_store_pages.specs.Reading.StandsAs}
use Rattle.desk_store_rows.specs.claim.{GeographyRows.{IsSealed, IsGeography, geography_rows, neighbours_bytes}, Keys.{key_of, seal}, Rows.{KeyMap, Lacks, element_row}}
use Rattle.{desk_store_rows.specs.{claim.Values.{block_bytes, seal_bytes}, declared.value.SealRow.SealRow}, geo_tables.specs.Elements.{IsSealedAs, IsSealRow}}
use Rattle.desk_store_rows.proofs.OneGeography.{no_value, seal_blocks, seal_load, seal_pairs}

-- the seal's row of a geography
abbrev seal_of : ℕ → GeographyModel → SealRow
seal_of load g = record { load = load; blocks = length g.blocks; pairs = length g.pairs }

same_seal : (a b : SealRow) → IsSealRow a → IsSealRow b → seal_bytes a ≡ seal_bytes b → a ≡ b
same_seal a b fa fb same = λ i. record {
  load = seal_load a b fa.load_fits fb.load_fits same i;
  blocks = seal_blocks a b fa.blocks_fit fb.blocks_fit same i;
  pairs = seal_pairs a b fa.pairs_fit fb.pairs_fit same i;
}

module _ (m : KeyMap) (load : ℕ) (g : GeographyModel) (is : IsSealed m load g) where
  all_blocks : take (geography_rows g) g.blocks ≡ g.blocks
  all_blocks = take_all (geography_rows g) g.blocks (omega arith)

  all_pairs : take (geography_rows g - length g.blocks) g.pairs ≡ g.pairs
  all_pairs = take_all (geography_rows g - length g.blocks) g.pairs (omega arith)

  fits : IsSealRow (seal_of load g)
  fits = record { load_fits = is.load_fits; blocks_fit = let few = is.sound.blocks.few in omega arith; pairs_fit = is.pairs_fit }

  as_told : IsSealedAs (seal_of load g) m g
  as_told = record {
    sound = is.sound;
    blocks = record {
      long = refl;
      fit = rw all_blocks at is.rows.fit;
      rows = λ place less. is.rows.blocks place (omega arith) ∙ ap (λ (l : List BlockRow). element_row block_bytes l place) all_blocks;
    };
    pairs = record {
      long = refl;
      fit = λ k d less. let one = is.sound.pairs k d less in record { first_fits = omega (arith, one.first); second_fits = omega (arith, one.second) };
      rows = λ place less. is.rows.pairs place (omega arith) ∙ ap (λ (l : List Pair). element_row neighbours_bytes l place) all_pairs;
    };
  }

  pub sealed_as : (sealed : SealRow) → IsSealRow sealed → StandsAs seal_bytes (key_of seal) m (Some sealed) → IsSealedAs sealed m g
  sealed_as sealed small stands = subst (λ s. IsSealedAs s m g) (same_seal (seal_of load g) sealed fits small (same_Some _ _ (sym is.named ∙ sym stands))) as_told

-- where a seal stands, it is that of the geography
pub told_by_seal : (m : KeyMap) (found : Option GeographyModel) (sealed : SealRow) → IsSealRow sealed → StandsAs seal_bytes (key_of seal) m (Some sealed) → IsGeography m found → (g : GeographyModel) × (found ≡ Some g) × IsSealedAs sealed m g
told_by_seal m found sealed small stands is = search (arith, no_value, sealed_as)

-- where none stands, there is no geography
pub none_by_seal : (m : KeyMap) (found : Option GeographyModel) → Lacks m seal → IsGeography m found → None ≡ found
none_by_seal m found lacks is = search (arith, no_value, seal_of)

-- either way the seal's row can be read
pub seal_stands : (m : KeyMap) (found : Option GeographyModel) → IsGeography m found → (sealed : Option SealRow) × StandsAs seal_bytes (key_of seal) m sealed
seal_stands m None is = (None, sym is)
seal_stands m (Some g) is = (Some (seal_of is.0 g), sym is.1.named)
