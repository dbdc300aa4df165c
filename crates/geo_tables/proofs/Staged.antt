-- Rows of a load that are put and committed.
use Rattle.{std.proofs.Common.{◌≡◌, ◌+◌, ◌*◌, ◌≤◌, ◌<◌, ◌^◌, ◌∙◌, ℕ, List, [], length, sym, subst, arith}, desk_model.specs.claim.{Desk.Desk, Geography.GeographyModel}}
use Rattle.{desk_model.specs.claim.GeographyModels.IsGeographyModel, desk_store_pages.specs.claim.{Desks.{InTxn, InPages}, Puts.HasPut}, desk_store_rows.specs.Changes.desk_with}
use Rattle.desk_store_rows.specs.claim.{GeographyRows.{IsStaged, geography_rows}, Keys.begun, Puts.{Row, put_rows}, Rows.{KeyMap, Has}, Tidy.{IsNext, CountersFit}}
use Rattle.{desk_store_rows.specs.declared.value.Counters.Counters, geo_tables.specs.Loading.{HoldsLoad, HoldsFurther, HoldsNew, number_of, geography_model_of, done_of}}
use Rattle.geo_tables.specs.{Loads.{HasBegun, HasSealed, sealed_rows}, Refusals.LackSeal, Rows.{begun_rows, staged_row, staged_rows}, Staging.Stages, Starting.IsStarted}
use Rattle.{geo_tables.specs.declared.load.Load.Load, page_btree.specs.gets.claim.Map.{InTxn as TxnHolds, InPages as PagesHold}, page_store.specs.declared.pages.Pages.Pages}
use Rattle.{page_store.specs.{claim.Transactions.{stored, disk_in, journal_of, txn_writes}, declared.txn.Txn.Txn}, sector_device.specs.declared.SectorDevice.Ghosts}
use Rattle.{desk_store_rows.proofs.Puts.length-rows_told, geo_tables.proofs.{Joins.reads_then, LoadRows.{begun_mark, begun_unsealed}}}
use Rattle.geo_tables.proofs.Maps.{begun_is, begun_none, batch_is, batch_mark, batch_unsealed, seal_is}

-- the rows of a load that are put next
abbrev pub rows_of : Load → ℕ → List Row
rows_of load rows = staged_rows (number_of load) (geography_model_of load) (done_of load) rows

pub rows_count : (load : Load) (rows : ℕ) → length (rows_of load rows) ≡ rows
rows_count load rows = length-rows_told (λ k. staged_row (number_of load) (geography_model_of load) (done_of load + k)) rows

-- what is known of a load and of so many rows of it
pub record CanStage (load : Load) (rows : ℕ) : Type 0 where
  pub sound : IsGeographyModel (geography_model_of load)
  pub number : number_of load < 2 ^ 64
  pub few : length (geography_model_of load).pairs < 2 ^ 32
  pub left : done_of load + rows ≤ geography_rows (geography_model_of load)

-- a transaction that put rows
module _ {D : Type 0} {g : Ghosts D} {n : ℕ} {rows : List Row} {t u : Txn} {a b : Pages D g} (started : IsStarted n a t) (put : HasPut rows t u a b) where
  -- reads the map with them
  pub put_reads : (disk_in b).is_honest → (m : KeyMap) → PagesHold a m → TxnHolds u (stored b) (put_rows m rows)
  put_reads honest m holds = search (arith, reads_then, put.passed.quiet, put.put, started.reads, put.passed.quiet.honest)

  -- and its pages fit in the journal
  pub put_fits : 11 * length rows + 1 ≤ 13 * n → txn_writes u + 1 ≤ journal_of b
  put_fits count = search (arith, put.writes, started.none, started.journal, put.passed.quiet.journal)

-- the desk without what is staged of a load
pub desk_held : {D : Type 0} {g : Ghosts D} {ps : Pages D g} {d : Desk} {load : Load} → HoldsLoad ps d load → InPages ps d
desk_held holds = record { m = holds.m; holds = holds.holds; is = holds.is }

module _ {D : Type 0} {g : Ghosts D} {load : Load} {rows : ℕ} {t u : Txn} {a b : Pages D g} (d : Desk) (can : CanStage load rows) (started : IsStarted (rows + 1) a t) (put : HasPut (rows_of load rows) t u a b)
    (honest : (disk_in b).is_honest) (holds : HoldsLoad a d load) where
  pub batch_desk : InTxn u (stored b) d
  batch_desk = record {
    m = put_rows holds.m (rows_of load rows);
    holds = put_reads started put honest holds.m holds.holds;
    is = batch_is holds.m d (number_of load) (geography_model_of load) (done_of load) rows holds.is holds.mark holds.unsealed can.number (let few = can.sound.blocks.few in omega arith) (let few = can.few in omega arith) can.left;
  }

  pub batch_holds : {c : Pages D g} → Stages (number_of load) (geography_model_of load) (done_of load) rows → ((m : KeyMap) → TxnHolds u (stored b) m → PagesHold c m) → HoldsFurther c d load rows
  unfolding batch_desk
  batch_holds stages held next further = record {
    m = put_rows holds.m (rows_of load rows);
    holds = held _ batch_desk.holds;
    is = batch_desk.is;
    staged = rw (further.number, further.geography, further.done) (stages holds.m holds.staged);
    mark = rw further.number (batch_mark holds.m d (number_of load) (geography_model_of load) (done_of load) rows holds.is holds.mark holds.unsealed);
    unsealed = batch_unsealed holds.m d (number_of load) (geography_model_of load) (done_of load) rows holds.is holds.mark holds.unsealed;
  }

-- ---- the seal
pub seal_fits : {D : Type 0} {g : Ghosts D} {number : ℕ} {area : GeographyModel} {t u : Txn} {a b : Pages D g} → IsStarted 2 a t → HasSealed number area t u a b → txn_writes u + 1 ≤ journal_of b
seal_fits started put = search (arith, put.writes, started.none, started.journal, put.passed.quiet.journal)

module _ {D : Type 0} {g : Ghosts D} {load : Load} {t u : Txn} {a b : Pages D g} (started : IsStarted 2 a t) (put : HasSealed (number_of load) (geography_model_of load) t u a b) where
  pub seal_desk : (d : Desk) → CanStage load 0 → done_of load ≡ geography_rows (geography_model_of load) → (disk_in b).is_honest → HoldsLoad a d load → InTxn u (stored b) (desk_with (geography_model_of load) d.plans)
  seal_desk d can whole honest holds = record {
    m = sealed_rows (number_of load) (geography_model_of load) holds.m;
    holds = reads_then put.passed.quiet u honest _ (put.sealed honest holds.m (started.reads (put.passed.quiet.honest honest) holds.m holds.holds));
    is = seal_is holds.m d (number_of load) (geography_model_of load) holds.is (subst (λ (k : ℕ). IsStaged holds.m (number_of load) (geography_model_of load) k) whole holds.staged) holds.mark holds.unsealed can.sound can.number can.few;
  }

-- ---- a load that is begun
module _ {D : Type 0} {g : Ghosts D} {number : ℕ} {t u : Txn} {a b : Pages D g} (started : IsStarted 2 a t) (made : HasBegun number t u a b) where
  fits_of : CountersFit made.next
  fits_of = search (arith, made.others_fit.0, made.others_fit.1, made.load_is, made.load_fits)

  next_of : (disk_in b).is_honest → (m : KeyMap) → PagesHold a m → IsNext m made.next
  next_of honest m holds = made.was honest m (started.reads (made.put.passed.quiet.honest honest) m holds)

  pub begun_told : (disk_in b).is_honest → (m : KeyMap) → PagesHold a m → (next : Counters) × IsNext m next × (number ≡ next.load)
  begun_told honest m holds = (made.next, next_of honest m holds, sym made.load_is)

  pub begun_desk : (d : Desk) → (disk_in b).is_honest → InPages a d → InTxn u (stored b) d
  begun_desk d honest holds = record {
    m = put_rows holds.m (begun_rows made.next);
    holds = put_reads started made.put honest holds.m holds.holds;
    is = let same = made.load_is in let more = made.load_fits in begun_is holds.m d made.next holds.is (next_of honest holds.m holds.holds) fits_of (omega arith);
  }

  pub begun_holds : {c : Pages D g} (d : Desk) → LackSeal a → (disk_in b).is_honest → InPages a d → ((m : KeyMap) → TxnHolds u (stored b) m → PagesHold c m) → HoldsNew c d number
  unfolding begun_desk
  begun_holds d unsealed honest holds held load number_is done_is = record {
    m = put_rows holds.m (begun_rows made.next);
    holds = held _ (begun_desk d honest holds).holds;
    is = (begun_desk d honest holds).is;
    staged = subst (λ (k : ℕ). IsStaged (put_rows holds.m (begun_rows made.next)) (number_of load) (geography_model_of load) k) (sym done_is)
        (subst (λ (k : ℕ). IsStaged (put_rows holds.m (begun_rows made.next)) k (geography_model_of load) 0) (made.load_is ∙ sym number_is)
        (begun_none holds.m d made.next holds.is (next_of honest holds.m holds.holds) fits_of (geography_model_of load)));
    mark = subst (λ (k : ℕ). Has (put_rows holds.m (begun_rows made.next)) (begun k) []) (made.load_is ∙ sym number_is) (begun_mark holds.m made.next);
    unsealed = begun_unsealed holds.m made.next (unsealed (made.put.passed.quiet.honest honest) holds.m holds.holds);
  }
