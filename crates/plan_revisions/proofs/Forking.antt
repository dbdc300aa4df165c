-- A fork that is read and put is a step of the desk.
use Rattle.std.proofs.Common.{rules, ◌≢◌, ◌≤◌, Result, Ok, ◌≡◌, ◌+◌, ◌*◌, ◌-◌, ◌^◌, ℕ, List, length, Some, refl, ap, subst, ◌∙◌, arith, length-append}
use Rattle.desk_model.specs.{Ranges.{ranges_of, ListsAreCut}, claim.{Desk.Desk, Geography.GeographyModel, GeographyModels.AreBlocks, Name.IsPlanName, Room.{rows_for, fork_rows}}}
use Rattle.{desk_model.specs.declared.ranges.CountyRange.CountyRange, desk_store_pages.specs.{Looking.Gathers, Outcomes.Writes, claim.{Desks.IsDeskMap, Puts.{HasPut, PutsErr}}}}
use Rattle.desk_store_rows.specs.{Shares.{hold_all, shared_rows}, Steps.one_plan_more, TidyLaws.NextIsOne, claim.{Puts.{Row, put_rows}, Rows.KeyMap, Tidy.CountersFit}}
use Rattle.{desk_store_rows.specs.declared.value.{Counters.Counters, StoredPlan.StoredPlan}, page_btree.specs.gets.{claim.Map.InTxn as HasMap, declared.error.TreeError.TreeError}}
use Rattle.{page_store.specs.{claim.Transactions.{stored, disk_in, IsQuiet}, declared.{pages.Pages.Pages, txn.Txn.Txn}}, plan_revisions.specs.Lookups.HasSomeRevision}
use Rattle.plan_revisions.specs.{Forking.{CanFork, CanMake, ForksAreMade, IsSource, MakesFork, PutsFork, forked_map, row_like, rows_of_fork}, PlanLaws.{PlansAreTold, RowFits}}
use Rattle.plan_revisions.specs.{PlanRows.{IsFound, created_rows}, Plans.{TakesFork, with_fork}, RevisionReading.AreNames, claim.{Outcomes.HasExhausted, PlanRows.HasPlanNumber}}
use Rattle.{plan_revisions.specs.{claim.Steps.{HasStepped, LeavesNumbers, StepErr}, declared.reads.Reading.Reading}, plan_revisions_sweeps.specs.chunk_table.Holding.CanHoldAll}
use Rattle.{plan_revisions_sweeps.specs.chunk_table.ChunkChanging.{HasChanged, MapErr}, sector_device.specs.declared.SectorDevice.Ghosts, plan_revisions.proofs.Looking.stands_at}
use Rattle.{desk_store_rows.proofs.Puts.length-rows_told, plan_revisions.proofs.{LastRevision.{ranges_long, last_named}, Retiring.{stepped_by, not_stepped_by}}}
use Rattle.plan_revisions_sweeps.proofs.chunk_table.Changed.{changed_as, prefix_unchanged, more_by_rows, more_changed, rows_by_rows, rows_changed, rows_unchanged, then_unchanged}
use Rattle.plan_revisions_sweeps.proofs.chunk_table.HeldAll.{held_by_rows}
use Rattle.plan_revisions_sweeps.proofs.chunk_table.Writing.{after_reads, writes_as}

-- ---- what is read
module _ (told : PlansAreTold) (cut_law : ListsAreCut) (the_geography : GeographyModel) (from : List ℕ) (k : ℕ) (row : StoredPlan) (count : ℕ) (many : count ≡ length (ranges_of the_geography)) (fits : RowFits row) where
  -- a revision that the desk has names so many chunks
  pub names_there : (m : KeyMap) (d : Desk) → IsFound m from (Some row) → IsDeskMap m d → HasSomeRevision the_geography from k d → (numbers : List ℕ) × AreNames row.number k count m numbers
  names_there m d found is says =
      let at = stands_at told cut_law the_geography (ranges_of the_geography) from row k says.0 m d refl fits found is says.1 in
      (at.is.has.numbers, last_named m the_geography row.number k says.0 count many at.is.has)

-- ---- what is put
module _ (name : List ℕ) (source : StoredPlan) (next : Counters) (numbers : List ℕ) where
  abbrev made_rows : List Row
  made_rows = created_rows name source.kind source.districts next

  abbrev pub last_rows : List Row
  last_rows = shared_rows (one_plan_more next) name (row_like source next.plan) numbers

  abbrev all : ℕ
  all = rows_of_fork (length numbers)

  abbrev can : KeyMap → Type 0
  can = CanFork name source next numbers

  abbrev making : KeyMap → KeyMap
  making m = put_rows m made_rows

  abbrev holding : KeyMap → KeyMap
  holding m = hold_all m next.plan numbers

  last_long : length last_rows ≡ rows_for 128 (length numbers) + 2
  last_long = search (arith, next.plan, length-rows_told, length-append)

  module _ {D : Type 0} {g : Ghosts D} where
    pub not_made : (t : Txn) (a b : Pages D g) (e : TreeError) → PutsErr made_rows t a b e → MapErr can all t a b e
    not_made t a b e why = prefix_unchanged 2 all can can t a b e (omega arith) (λ m is. is) (rows_unchanged can made_rows t a b e why)

    pub not_held : {t u : Txn} {a b c : Pages D g} (e : TreeError) → HasPut made_rows t u a b → IsQuiet b c → MapErr (CanHoldAll next.plan numbers) (2 * length numbers) u b c e → MapErr can all t a c e
    not_held {t} {u} {a} {b} {c} e put quiet why =
        prefix_unchanged (2 + 2 * length numbers) all can can t a c e (omega arith) (λ m is. is)
        (then_unchanged making 2 (2 * length numbers) can (CanHoldAll next.plan numbers) t u a b c e (rows_by_rows made_rows) (λ m is. is) (rows_changed made_rows t u a b put) quiet why)

    pub made_held : {t u v : Txn} {a b c : Pages D g} → HasPut made_rows t u a b → HasChanged holding (2 * length numbers) u v b c → HasChanged (λ m. holding (making m)) (2 + 2 * length numbers) t v a c
    made_held {t} {u} {v} {a} {b} {c} put held = more_changed making holding 2 (2 * length numbers) t u v a b c (rows_changed made_rows t u a b put) held

    pub not_shared : {t v : Txn} {a c d : Pages D g} (e : TreeError) → HasChanged (λ m. holding (making m)) (2 + 2 * length numbers) t v a c → IsQuiet c d → PutsErr last_rows v c d e → MapErr can all t a d e
    not_shared {t} {v} {a} {c} {d} e did quiet why =
        let long = last_long in
        prefix_unchanged (2 + 2 * length numbers + length last_rows) all can can t a d e (omega arith) (λ m is. is)
        (then_unchanged (λ m. holding (making m)) (2 + 2 * length numbers) (length last_rows) can (λ m. Unit {0}) t v a c d e
        (more_by_rows making holding 2 (2 * length numbers) (rows_by_rows made_rows) (held_by_rows next.plan numbers))
        (λ m is. tt) did quiet (rows_unchanged (λ m. Unit {0}) last_rows v c d e why))

    pub all_put : {t v w : Txn} {a c d : Pages D g} → HasChanged (λ m. holding (making m)) (2 + 2 * length numbers) t v a c → HasPut last_rows v w c d → HasChanged (forked_map name source next numbers) all t w a d
    all_put {t} {v} {w} {a} {c} {d} did put =
        let long = last_long in
        changed_as (λ m. put_rows (holding (making m)) last_rows) (forked_map name source next numbers) (2 + 2 * length numbers + length last_rows) all t w a d (λ m. refl) (omega arith)
        (more_changed (λ m. holding (making m)) (λ m. put_rows m last_rows) (2 + 2 * length numbers) (length last_rows) t v w a c d did (rows_changed last_rows v w c d put))

-- ---- the step
module _ {D : Type 0} {g : Ghosts D} {from : List ℕ × ℕ} {ranges : List CountyRange} {has : KeyMap → Type 0} {t : Txn} {a b : Pages D g} {r : Reading}
    (the_geography : GeographyModel) (gathers : Gathers (λ m x. IsSource from (length ranges) x.row x.next x.kept.items m) has t a b (Ok r))
    (fits : RowFits r.row × CountersFit r.next × (length r.kept.items ≡ length ranges)) (cut_is : ranges ≡ ranges_of the_geography) where
  read : (disk_in b).is_honest → (m : KeyMap) → HasMap t (stored a) m → IsSource from (length (ranges_of the_geography)) r.row r.next r.kept.items m
  read honest m holds = subst (λ (cs : List CountyRange). IsSource from (length cs) r.row r.next r.kept.items m) cut_is (gathers.there honest m holds)

  -- no number was left
  pub none_left : r.next.plan ≡ 2 ^ 64 - 1 → HasExhausted HasPlanNumber t t a b
  none_left last =
      let passed = gathers.passed in
      let fit = fits.1 in
      let before = read in
      search rules

  module _ (name : List ℕ) (blocks : AreBlocks the_geography.blocks) (is_name : IsPlanName name) (left : r.next.plan ≢ 2 ^ 64 - 1) (law : ForksAreMade) (one : NextIsOne) where
    abbrev says : Desk → Type 0
    says = TakesFork the_geography name from

    can_make : CanMake the_geography name r.row r.next
    can_make = record { blocks = blocks; is_name = is_name; row_fits = fits.0; fit = fits.1; room = let most = fits.1.plan_fits in omega arith }

    few_rows : rows_of_fork (length r.kept.items) ≤ fork_rows the_geography
    few_rows = let rows = ap rows_of_fork (fits.2 ∙ ap length cut_is ∙ ranges_long the_geography) in omega arith

    makes : (disk_in b).is_honest → (m : KeyMap) (d : Desk) → HasMap t (stored a) m → IsDeskMap m d → says d → MakesFork name from r.row r.next r.kept.items m d
    makes honest m d holds is takes = law the_geography name from r.row r.next r.kept.items can_make m d is takes (read honest m holds)

    -- the numbers that were read are those of each map
    leaves : (d : Pages D g) → IsQuiet b d → LeavesNumbers HasPlanNumber t a d
    leaves d quiet honest m after holds fit is = subst HasPlanNumber (one m r.next after fits.1 fit (read (quiet.honest honest) m holds).is_next is) can_make.room

    pub forks : {X : Type 0} {u : Txn} {d : Pages D g} {numbers : List ℕ} (result : Result X TreeError) → numbers ≡ r.kept.items → PutsFork name r.row r.next numbers t u b d result
        → Writes (λ _. HasStepped says (with_fork name from) (fork_rows the_geography) t u a d × LeavesNumbers HasPlanNumber t a d) (StepErr says (fork_rows the_geography) t a d) u a d result
    forks {X} {u} {d} result same put =
        let now = subst (λ (l : List ℕ). PutsFork name r.row r.next l t u b d result) same put in
        let change = forked_map name r.row r.next r.kept.items in
        let rows = rows_of_fork (length r.kept.items) in
        writes_as result (after_reads result gathers.quiet now)
        (λ _ did. (
          stepped_by says (with_fork name from) (fork_rows the_geography) change rows t a b d gathers.passed few_rows u (λ before m desk holds is takes. (makes before m desk holds is takes).is) did,
          leaves d put.quiet,
        ))
        (λ e why.
        not_stepped_by says (with_fork name from) (fork_rows the_geography) change rows t a b d gathers.passed few_rows
        (CanFork name r.row r.next r.kept.items) (λ before m desk holds is takes. (makes before m desk holds is takes).can) e why.0 why.1)
