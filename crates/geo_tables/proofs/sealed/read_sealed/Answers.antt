use Rattle.{std.{specs.Prelude.{Result, MatchResult}, proofs.Common.{◌≡◌, Ok, Err, List, sym, subst, ◌∙◌}}, desk_model.specs.claim.Geography.GeographyModel}
use Rattle.{desk_model.specs.{claim.GeographyModels.IsGeographyModel, declared.{block.BlockRow.BlockRow, geography.Pair.Pair}}, desk_store_rows.specs.claim.Rows.KeyMap}
use Rattle.{desk_store_pages.specs.Looking.{Gathers, IsOnly, Says}, desk_store_rows.specs.claim.{GeographyRows.{IsBlockRow, neighbours_bytes}, Keys.{key_of, block, pair}}}
use Rattle.{desk_store_rows.specs.{claim.Values.block_bytes, declared.value.SealRow.SealRow}, page_btree.specs.gets.declared.error.TreeError.TreeError}
use Rattle.{geo_tables.specs.Elements.{GeographyErr, HoldsElements, IsPairRow, IsReadBy, IsSealedAs, IsSealRead}, page_store.specs.declared.{pages.Pages.Pages, txn.Txn.Txn}}
use Rattle.{page_btree.specs.gets.declared.error.TreeError.TheVariants.{NotAStore, Memory}, sector_device.specs.declared.SectorDevice.Ghosts}
use Rattle.desk_store_pages.proofs.Looking.{both, fails, fails_then, finds, not_looked, refuses}
use Rattle.geo_tables.proofs.sealed.read_sealed.Goals as goal

-- ---- what was read of a geography, where it is none
-- the rows hold these blocks and pairs alone
record IsReadOf (sealed : SealRow) (blocks : List BlockRow) (pairs : List Pair) (m : KeyMap) : Type 0 where
  blocks_are : IsOnly (HoldsElements block_bytes IsBlockRow (λ place. key_of (block sealed.load place)) sealed.blocks m) blocks
  pairs_are : IsOnly (HoldsElements neighbours_bytes IsPairRow (λ place. key_of (pair sealed.load place)) sealed.pairs m) pairs

module _ {D : Type 0} {g : Ghosts D} {t : Txn} {a b : Pages D g} (sealed : SealRow) (blocks : List BlockRow) (pairs : List Pair) (read : Gathers (λ m u. IsReadOf sealed blocks pairs m) (λ m. Unit {0}) t a b (Ok (tt {0}))) where
  geography_is : (m : KeyMap) (x : GeographyModel) → IsReadOf sealed blocks pairs m → IsSealedAs sealed m x → ◌≡◌ {A = GeographyModel} (record { blocks = blocks; pairs = pairs }) x
  geography_is m x is held = λ i. record { blocks = is.blocks_are.only x.blocks held.blocks i; pairs = is.pairs_are.only x.pairs held.pairs i }

  geography_read : (r : Result GeographyModel TreeError) → MatchResult r (λ x. x ≡ record { blocks = blocks; pairs = pairs }) (GeographyErr (record { blocks = blocks; pairs = pairs }))
      → Gathers (IsReadBy (IsSealRead sealed) (IsSealedAs sealed)) (Says (IsSealedAs sealed)) t a b r
  geography_read (Ok x) made = finds read (λ m is. record {
    there = subst (λ (x : GeographyModel). IsSealRead sealed m x) (sym made) (record { blocks = is.blocks_are.said; pairs = is.pairs_are.said });
    read = λ other held. made ∙ geography_is m other is held;
  })
  geography_read (Err NotAStore) why = refuses read (λ m is held. why (subst IsGeographyModel (sym (geography_is m held.0 is held.1)) held.1.sound))
  geography_read (Err Memory) why = not_looked read.quiet tt
  geography_read (Err _) why = absurd why

pub returns-in_err-blocks : goal.returns-in_err-blocks
returns-in_err-blocks g c = fails c.from_residual.result c.in_err-blocks.ensures c.from_residual.ensures.1 (λ m is. (is.0.blocks, is.1.blocks))

pub returns-in_err-pairs : goal.returns-in_err-pairs
returns-in_err-pairs g c = fails_then c.in_ok-blocks.ensures c.from_residual-in_err-pairs.result c.in_err-pairs.ensures c.from_residual-in_err-pairs.ensures.1 (λ m one is. (is.0.pairs, is.1.pairs))

pub returns : goal.returns
returns g c = geography_read c.args.sealed.now c.in_ok-blocks.blocks.items c.in_ok-pairs.pairs.items
    (finds (both c.in_ok-blocks.ensures c.in_ok-pairs.ensures) (λ m is. record { blocks_are = is.0; pairs_are = is.1 })) c.geography_of.result c.geography_of.ensures
