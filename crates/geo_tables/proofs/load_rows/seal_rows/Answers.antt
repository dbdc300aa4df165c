use Rattle.{std.{specs.FinMap.{insert, remove}, proofs.Common.{List, ℕ, [], ◌∷◌, ◌≡◌, ◌∙◌, length, sym, subst, arith}}, desk_model.specs.claim.Geography.GeographyModel}
use Rattle.{desk_model.specs.declared.{block.BlockRow.BlockRow, geography.Pair.Pair}, desk_store_pages.specs.claim.Puts.{HasPut, PutsErr}, desk_store_rows.specs.claim.Puts.Row}
use Rattle.{desk_store_rows.specs.claim.{Keys.{key_of, seal}, Values.seal_bytes}, geo_tables.specs.Rows.seal_row, page_btree.specs.gets.claim.{Errors.RemoveErr, Map.InTxn}}
use Rattle.{page_btree.specs.gets.declared.error.TreeError.TreeError, page_store.specs.{claim.Transactions.{stored, IsQuiet}, declared.{pages.Pages.Pages, txn.Txn.Txn}}}
use Rattle.{sector_device.specs.{claim.Disk.Image, declared.SectorDevice.Ghosts}, desk_store_pages.proofs.{Outcomes.match_of, RowsPut.then_not_put, Writing.{puts_as, told_on}}}
use Rattle.page_store.proofs.Stops.{quiet_more, passed_more}
use Rattle.geo_tables.proofs.load_rows.seal_rows.Goals as goal

row_is : (load : ℕ) (g : GeographyModel) {blocks : List BlockRow} {pairs : List Pair} {key value : List ℕ} → blocks ≡ g.blocks → pairs ≡ g.pairs → key ≡ key_of seal
    → value ≡ seal_bytes (record { load = load; blocks = length blocks; pairs = length pairs }) → ◌≡◌ {A = List Row} ((key, value) ∷ []) (seal_row load g ∷ [])
row_is load g blocks_are pairs_are named is = λ i. (named i, (is ∙ (λ j. seal_bytes (record { load = load; blocks = length (blocks_are j); pairs = length (pairs_are j) }))) i) ∷ []

-- a row was put, and then another not removed
then_not_removed : {D : Type 0} {g : Ghosts D} (row : Row) (t u : Txn) (a b c : Pages D g) (e : TreeError) → HasPut (row ∷ []) t u a b → IsQuiet b c → RemoveErr u b c e → PutsErr (row ∷ []) t a c e
then_not_removed row t u a b c e put quiet why = then_not_put (row ∷ []) [] t u a b c e put quiet (search (arith))

pub returns-in_err-put_row : goal.returns-in_err-put_row
returns-in_err-put_row g c = told_on c.from_residual.result (puts_as (row_is c.args.load c.args.geography.now c.blocks-2.ensures.value c.pairs.ensures.value c.seal.ensures c.seal_value.ensures) c.in_err-put_row.ensures.puts)
    c.from_residual.ensures.1 (λ why. why)

pub returns-in_err-remove : goal.returns-in_err-remove
returns-in_err-remove g c =
    let row = seal_row c.args.load c.args.geography.now in
    let first = puts_as (row_is c.args.load c.args.geography.now c.blocks-2.ensures.value c.pairs.ensures.value c.seal.ensures c.seal_value.ensures) c.in_ok-put_row.ensures.puts in
    record {
      quiet = quiet_more c.args.pages.now c.put_row.new.pages c.remove.new.pages first.quiet c.remove.ensures.reading.quiet;
      begun = c.remove.ensures.pages ∙ first.begun ∙ sym c.remove.ensures.reading.quiet.count;
      put = match_of c.from_residual-in_err-remove.result _ c.in_err-remove.field-0.0 (PutsErr (row ∷ []) c.args.txn.now c.args.pages.now c.remove.new.pages) c.from_residual-in_err-remove.ensures.1
          (then_not_removed row c.args.txn.now c.put_row.new.txn c.args.pages.now c.put_row.new.pages c.remove.new.pages c.in_err-remove.field-0.0 first.put c.remove.ensures.reading.quiet c.in_err-remove.ensures.reading.err);
    }

pub returns : goal.returns
returns g c =
    let first = puts_as (row_is c.args.load c.args.geography.now c.blocks-2.ensures.value c.pairs.ensures.value c.seal.ensures c.seal_value.ensures) c.in_ok-put_row.ensures.puts in
    let row = seal_row c.args.load c.args.geography.now in
    record {
      quiet = quiet_more c.args.pages.now c.put_row.new.pages c.remove.new.pages first.quiet c.remove.ensures.reading.quiet;
      begun = c.remove.ensures.pages ∙ first.begun ∙ sym c.remove.ensures.reading.quiet.count;
      put = record {
        passed = passed_more c.args.pages.now c.put_row.new.pages c.remove.new.pages first.put.passed c.in_ok-remove.ensures.reading.passed;
        pages = c.remove.ensures.pages ∙ first.put.pages;
        sealed = λ honest m holds.
            let before = c.remove.ensures.reading.quiet.honest honest in
            let same = first.put.passed.quiet.same before in
            let with = insert m row.0 row.1 in
            let there = subst (λ (P : Image). InTxn c.put_row.new.txn P with) (sym same) (first.put.put before m holds) in
            subst (λ (key : List ℕ). InTxn c.remove.new.txn (stored c.args.pages.now) (remove with key)) (c.as_slice.ensures.bytes ∙ c.begun.ensures)
            (subst (λ (P : Image). InTxn c.remove.new.txn P (remove with c.as_slice.result.now)) same ((c.in_ok-remove.ensures.remove honest with there).0));
        writes = let writes = first.put.writes in let last = c.in_ok-remove.ensures.costs.writes in omega arith;
        taken = let taken = first.put.taken in let last = c.in_ok-remove.ensures.costs.given in omega arith;
      };
    }
