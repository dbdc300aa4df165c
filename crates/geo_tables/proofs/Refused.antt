-- Why a step of a load is refused, from why its parts are.
use Rattle.std.proofs.{Common.{◌≡◌, ◌*◌, ◌≤◌, ◌<◌, ◌^◌, ℕ, Bool, List, Option, None, length, false, true, refl, sym, subst, ◌∙◌, inl, inr, arith, ◌+◌}, lemmas.Bool.cases_lt}
use Rattle.{desk_model.specs.claim.{Desk.Desk, Geography.GeographyModel}, desk_store_pages.specs.{Errors.tree_refusal, Reading.{HasNext, ReadErr, StandsAs}, claim.Puts.PutsErr}}
use Rattle.desk_store_pages.specs.{claim.Desks.{IsDeskMap, InPages}, declared.error.StoreError.{StoreError, TheVariants.{Full, Memory, NotAStore, DeviceFault, Halted}}}
use Rattle.desk_store_rows.specs.{claim.{Keys.{key_of, seal}, Puts.{Row, put_rows}, Rows.{KeyMap, Lacks}, Values.seal_bytes}, declared.value.SealRow.SealRow}
use Rattle.geo_tables.specs.{Loads.{AreExhausted, IsNotBegun, BeginErr}, Refusals.{HasRoom, IsShort, IsDeep, AreBegun, NextErr, RowsErr, SealedErr, BeginErr as Begins}}
use Rattle.{geo_tables.specs.{Rows.begun_rows, Starting.{IsStarted, StartErr}, declared.load.Load.Load}, page_btree.specs.gets.claim.Errors.{level_in, reach_in, top_reach}}
use Rattle.{page_btree.specs.gets.{claim.Map.{InTxn as TxnHolds, InPages as HoldsRows}, declared.error.TreeError.TreeError}, page_store.specs.claim.Chain.root_in}
use Rattle.page_store.specs.{claim.Transactions.{stored, disk_in, journal_of, has_halted, txn_free, txn_root, over, IsQuiet, Passed}, declared.{pages.Pages.Pages, txn.Txn.Txn}}
use Rattle.{sector_device.specs.{claim.Disk.Image, declared.SectorDevice.Ghosts}, desk_store_pages.proofs.Nearness.near_stored, geo_tables.proofs.Maps.no_geography}
use Rattle.{geo_tables.proofs.{Joins.{failed_after, room_of, quiet_rows, quiet_desk}, SealedRows.seal_stands}, page_store.proofs.Stops.{quiet_more, quiet_none}}
use Rattle.page_btree.specs.gets.declared.error.TreeError.TheVariants as tree

pub both : {X : Type 0} (b : Bool) → b ≡ true → b ≡ false → X
both b one other = absurd (cc)

module _ {D : Type 0} {g : Ghosts D} where
  -- ---- rows of a load: a batch, or the seal
  module _ (load : Load) (rows : ℕ) (all : List Row) where
    -- no transaction was begun
    pub rows_unstarted : (a : Pages D g) (e : StoreError) → StartErr rows a e → RowsErr load rows all a a e
    rows_unstarted a e why = search (arith, quiet_none)

    pub rows_refused : (t : Txn) (a b : Pages D g) → IsStarted rows a t → length all ≤ rows → IsQuiet a b → (e : TreeError) → PutsErr all t a b e → RowsErr load rows all a b (tree_refusal e)
    rows_refused t a b started few quiet tree.DeviceFault why = (room_of started quiet.honest, why)
    rows_refused t a b started few quiet tree.NotAStore why = (quiet, λ honest d holds. why honest holds.m (started.reads (quiet.honest honest) holds.m holds.holds))
    rows_refused t a b started few quiet tree.Halted why = both (has_halted a) why started.working
    rows_refused t a b started few quiet tree.NoPages why = let free = started.free in absurd (omega arith)
    rows_refused t a b started few quiet tree.TooDeep why = (
      quiet,
      inr (λ honest m holds.
          let found = why honest m (started.reads (quiet.honest honest) m holds) in
          (all, refl, (t, found.0), near_stored (length all) t a (started.same (quiet.honest honest)) (started.root (quiet.honest honest)) found.1)),
    )
    rows_refused t a b started few quiet tree.Memory why = (quiet, room_of started quiet.honest)

  -- ---- a load that isn't begun
  module _ {t : Txn} {a b : Pages D g} (started : IsStarted 2 a t) (quiet : IsQuiet a b) where
    next_unread : (has : KeyMap → Type 0) → ((m : KeyMap) (d : Desk) → IsDeskMap m d → has m) → (e : TreeError) → ReadErr has t a b e → NextErr a b (tree_refusal e)
    next_unread has is_there tree.DeviceFault why = why
    next_unread has is_there tree.NotAStore why = (quiet, λ honest d holds. why honest holds.m (started.reads (quiet.honest honest) holds.m holds.holds) (is_there holds.m d holds.is))
    next_unread has is_there tree.Halted why = both (has_halted a) why started.working
    next_unread has is_there _ why = absurd why

    next_unput : (e : TreeError) → IsNotBegun t a b e → NextErr a b (tree_refusal e)
    next_unput tree.DeviceFault not = not.why
    next_unput tree.NotAStore not = (quiet, λ honest d holds. not.why honest holds.m (started.reads (quiet.honest honest) holds.m holds.holds))
    next_unput tree.Halted not = both (has_halted a) not.why started.working
    next_unput tree.NoPages not = let free = started.free in let few = not.why in absurd (omega arith)
    next_unput tree.TooDeep not = (
      quiet,
      inr (inr (λ honest m holds.
          let reads = started.reads (quiet.honest honest) m holds in (
            begun_rows not.next,
            (not.next, not.was honest m reads, refl),
            (t, (not.why honest m reads).0),
            near_stored (length (begun_rows not.next)) t a (started.same (quiet.honest honest)) (started.root (quiet.honest honest)) (not.why honest m reads).1,
          ))),
    )
    next_unput tree.Memory not = (quiet, room_of started quiet.honest)

    pub next_refused : (e : TreeError) → BeginErr t a b e → NextErr a b (tree_refusal e)
    next_refused e why = elim why [ inl none ↦ next_unread HasNext (λ m d is. (is.tidy.next, is.tidy.is_next)) e none | inr not ↦ next_unput e not ]

    pub next_exhausted : AreExhausted t a b → NextErr a b Full
    next_exhausted exhausted = (quiet, inr (inl (λ honest m holds. exhausted honest m (started.reads (quiet.honest honest) m holds))))

  -- after calls that read at most and saw no seal
  deep_after : (are : KeyMap → List Row → Type 0) (a b c : Pages D g) → IsQuiet a b → ((disk_in c).is_honest → (disk_in b).is_honest) → IsDeep are b c → IsDeep are a c
  deep_after are a b c quiet honest_then deep = λ honest m holds.
      let then = honest_then honest in
      let found = deep honest m (quiet_rows quiet then m holds) in
      let is = found.2.1 in
      let holds : TxnHolds is.txn (stored a) (put_rows m is.prefix) = subst (λ (P : Image). TxnHolds is.txn P (put_rows m is.prefix)) (quiet.same then) is.holds in
      let deep : level_in (over is.txn (stored a)) (txn_root is.txn) ≡ 5 = subst (λ (P : Image). level_in (over is.txn P) (txn_root is.txn) ≡ 5) (quiet.same then) is.deep in
      (found.0, found.1, (found.2.0, search (arith)), subst (λ (P : Image). top_reach ≤ reach_in P (root_in P) + length found.0) (quiet.same then) found.3)

  pub room_after : (rows : ℕ) (a b c : Pages D g) → IsQuiet a b → ((disk_in c).is_honest → (disk_in b).is_honest) → HasRoom rows b c → HasRoom rows a c
  room_after rows a b c quiet honest_then room = search (arith, room.journal, quiet.journal, quiet.same, honest_then, room.free)

  module _ (area : GeographyModel) (a b : Pages D g) (passed : Passed a b) (unsealed : (disk_in b).is_honest → (d : Desk) → InPages b d → d.geography ≡ None) where
    pub begin_after : (c : Pages D g) → has_halted a ≡ false → ((disk_in c).is_honest → (disk_in b).is_honest) → (e : StoreError) → NextErr b c e → Begins area a c e
    begin_after c working honest_then Full why = (
      quiet_more a b c passed.quiet why.0,
      (λ honest d holds. unsealed (honest_then honest) d (quiet_desk passed.quiet (honest_then honest) d holds)),
      elim why.1 [
        | inl short ↦ inl (search (arith, passed.quiet.journal, passed.quiet.same, honest_then))
        | inr more ↦ elim more [
          | inl exhausted ↦ inr (inl (λ honest m holds. exhausted honest m (quiet_rows passed.quiet (honest_then honest) m holds)))
          | inr deep ↦ inr (inr (inl (deep_after AreBegun a b c passed.quiet honest_then deep)))
        ]
      ],
    )
    begin_after c working honest_then Memory why = search (arith, quiet_more, passed.quiet, why.0, honest_then, quiet_desk, room_after, why.1)
    begin_after c working honest_then DeviceFault why = failed_after passed c honest_then why
    begin_after c working honest_then NotAStore why = (quiet_more a b c passed.quiet why.0, λ honest d holds. why.1 honest d (quiet_desk passed.quiet (honest_then honest) d holds))
    begin_after c working honest_then Halted why = both (has_halted a) (sym passed.halted ∙ why.0) working
    begin_after c working honest_then _ why = absurd why

    -- where there is no room for the rows that begin a load, or its pairs can't be numbered
    short_begun : (t : Txn) → IsStarted 0 a t → ((13 * 2 ≤ txn_free t) × (13 * 2 ≤ journal_of b) → ⊥) → IsShort 2 a b
    short_begun t started none = search (arith, cases_lt, passed.quiet.journal, started.count, passed.quiet.honest, none)

    pub begin_full : (t : Txn) → IsStarted 0 a t → ((length area.pairs < 2 ^ 32) × ((13 * 2 ≤ txn_free t) × (13 * 2 ≤ journal_of b)) → ⊥) → Begins area a b Full
    begin_full t started none = (
      passed.quiet,
      λ honest d holds. unsealed honest d (quiet_desk passed.quiet honest d holds),
      elim (cases_lt (length area.pairs) (2 ^ 32)) [
        | inl less ↦ inl (short_begun t started (λ room. none (less, room)))
        | inr many ↦ inr (inr (inr many))
      ],
    )

  -- ---- the seal, where it is read in a transaction that reads what the pages hold
  pub seal_unread : (t : Txn) (a b : Pages D g) → has_halted a ≡ false → IsQuiet a b → ((disk_in b).is_honest → (m : KeyMap) → HoldsRows a m → TxnHolds t (stored a) m)
      → (e : TreeError) → ReadErr (λ m. (value : Option SealRow) × StandsAs seal_bytes (key_of seal) m value) t a b e → SealedErr a b (tree_refusal e)
  seal_unread t a b working quiet reads tree.DeviceFault why = why
  seal_unread t a b working quiet reads tree.NotAStore why = (quiet, λ honest d holds. why honest holds.m (reads honest holds.m holds.holds) (seal_stands holds.m d.geography holds.is.desk.geography))
  seal_unread t a b working quiet reads tree.Halted why = both (has_halted a) why working
  seal_unread t a b working quiet reads _ why = absurd why

  pub desk_unsealed : (b c : Pages D g) → ((disk_in c).is_honest → (disk_in b).is_honest) → ((disk_in b).is_honest → (m : KeyMap) → HoldsRows b m → Lacks m seal) → (disk_in c).is_honest → (d : Desk) → InPages b d → d.geography ≡ None
  desk_unsealed b c honest_then lacks honest d holds = no_geography holds.m d holds.is.desk (lacks (honest_then honest) holds.m holds.holds)

  pub sealed_refused : (area : GeographyModel) (a b : Pages D g) (e : StoreError) → SealedErr a b e → Begins area a b e
  sealed_refused area a b e why = search (arith)
