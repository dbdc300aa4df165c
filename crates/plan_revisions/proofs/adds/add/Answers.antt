use Rattle.std.proofs.Common.{rules, ◌≡◌, ◌<◌, ◌≤◌, ◌-◌, ◌^◌, ◌∙◌, ℕ, Bool, List, length, get_or, Option, Result, Ok, sym, ap, subst, arith, Err}
use Rattle.{std.proofs.lemmas.Grind.get_or_default_zero, desk_model.specs.{Ranges.ranges_of, claim.{Desk.Desk, Geography.GeographyModel, GeographyModels.AreBlocks}}}
use Rattle.{desk_model.specs.{claim.Room.{changed, revision_rows}, declared.ranges.CountyRange.CountyRange}, desk_store_catalogue.specs.Cutting.{changes_in, is_changed}}
use Rattle.{desk_store_pages.specs.{Looking.Gathers, Outcomes.Writes, claim.Puts.{HasPut, PutsErr}}, desk_store_rows.specs.{TidyLaws.NextIsOne, claim.Puts.{Row, put_rows}}}
use Rattle.{desk_store_rows.specs.{claim.{Rows.KeyMap, Tidy.CountersFit}, declared.value.Counters.Counters}, page_btree.specs.gets.claim.Map.InTxn as HasMap}
use Rattle.{page_btree.specs.gets.declared.error.TreeError.TreeError, page_store.specs.{claim.Transactions.{stored, disk_in, IsQuiet}, declared.{pages.Pages.Pages, txn.Txn.Txn}}}
use Rattle.plan_revisions.specs.{Adding.{AreRead, IsOpen, rows_put, TakesSome}, Counties.{count_new, drawn, new_lists}, Laws.{CanAdd, DesksAreAdded, RowsAreFew, all_rows}}
use Rattle.plan_revisions.specs.{Outcomes.AddsRows, Plans.{TakesNext, with_next}, claim.{Outcomes.HasExhausted, PlanRows.HasChunkNumbers}, declared.reads.Reading.Reading}
use Rattle.{plan_revisions.{specs.claim.Steps.{HasStepped, LeavesNumbers, StepErr}, proofs.Chunking.new_many}, sector_device.specs.declared.SectorDevice.Ghosts}
use Rattle.{desk_store_pages.proofs.Writing.{does, told_on}, plan_revisions.proofs.{Drawn.{new_are_changed, long_drawn}, LastRevision.sought_said}}
use Rattle.plan_revisions.proofs.Retiring.{stepped_by, not_stepped_by}
use Rattle.plan_revisions_sweeps.proofs.chunk_table.Changed.{rows_changed, rows_unchanged}
use Rattle.plan_revisions_sweeps.proofs.chunk_table.Writing.{after_reads, writes_as, only_read, unread}
use Rattle.plan_revisions.proofs.adds.add.Goals as goal

-- A revision that was read and put is a step of the desk.
module _ {D : Type 0} {g : Ghosts D} {name : List ℕ} {ranges : List CountyRange} {used : ℕ} {has : KeyMap → Type 0} {t : Txn} {a b : Pages D g} {r : Reading}
    (the_geography : GeographyModel) (next : List ℕ) (changes : List Bool) (gathers : Gathers (λ m x. AreRead name (length ranges) x.row x.next x.kept.items m) has t a b (Ok r))
    (fits : IsOpen r.row × CountersFit r.next) (cut_is : ranges ≡ ranges_of the_geography) (counted : used ≡ count_new changes) where
  -- these change since a last revision
  abbrev AreSince : Option (List ℕ) → Type 0
  AreSince last = changes ≡ changes_in last next (ranges_of the_geography)

  abbrev many : Option (List ℕ) → ℕ
  many last = length (changed the_geography last next)

  abbrev says : Option (List ℕ) → Desk → Type 0
  says last = TakesNext the_geography name last next

  abbrev rows : Option (List ℕ) → List Row
  rows last = all_rows the_geography name last next r.row r.next r.kept.items

  read : (disk_in b).is_honest → (m : KeyMap) → HasMap t (stored a) m → AreRead name (length (ranges_of the_geography)) r.row r.next r.kept.items m
  read honest m holds = subst (λ (cs : List CountyRange). AreRead name (length cs) r.row r.next r.kept.items m) cut_is (gathers.there honest m holds)

  used_are : (last : Option (List ℕ)) → AreSince last → used ≡ many last
  used_are last are = counted ∙ ap count_new are ∙ sym (new_many (is_changed last next) next (ranges_of the_geography)) ∙ ap length (new_are_changed the_geography last next)

  -- too few numbers were left
  not_left : 2 ^ 64 - 1 - r.next.chunk < used → (last : Option (List ℕ)) → AreSince last → HasExhausted (HasChunkNumbers (many last)) t t a b
  not_left more last are =
      let passed = gathers.passed in
      let fit = fits.1 in
      let same = used_are last are in
      let before = read in
      search rules

  module _ (numbers : List ℕ) (blocks : AreBlocks the_geography.blocks) (long : length next ≡ length the_geography.blocks) (each : (i : ℕ) → get_or next i 0 < 2 ^ 16) (room : used ≤ 2 ^ 64 - 1 - r.next.chunk)
      (numbered : numbers ≡ drawn r.next.chunk 0 r.kept.items changes) (added : DesksAreAdded) (few : RowsAreFew) (one : NextIsOne) where
    module _ (last : Option (List ℕ)) (are : AreSince last) where
      can : CanAdd the_geography last next r.row r.next
      can = let same = used_are last are in search (arith, get_or_default_zero, each)

      -- what was put, in the geography's words
      rows_are : rows_put name r.row r.next (new_lists changes next ranges) numbers used ≡ rows last
      rows_are =
          let lists = (λ i. new_lists (are i) next (cut_is i)) ∙ new_are_changed the_geography last next in
          λ i. rows_put name r.row r.next (lists i) ((numbered ∙ ap (drawn r.next.chunk 0 r.kept.items) are) i) (used_are last are i)

      few_rows : length (rows last) ≤ revision_rows the_geography last next
      few_rows = let long = few the_geography name last next r.row r.next r.kept.items in omega arith

      -- the numbers that were read are those of each map
      leaves : (d : Pages D g) → IsQuiet b d → LeavesNumbers (HasChunkNumbers (many last)) t a d
      leaves d quiet honest m after holds fit is = subst (λ (n : Counters). HasChunkNumbers (many last) n) (one m r.next after fits.1 fit (read (quiet.honest honest) m holds).is_next is) can.room

    adds : {X : Type 0} {u : Txn} {d : Pages D g} (result : Result X TreeError) → AddsRows name r.row r.next changes next ranges numbers used t u b d result
        → Writes (λ _. (last : Option (List ℕ)) → AreSince last → HasStepped (says last) (with_next name next) (revision_rows the_geography last next) t u a d × LeavesNumbers (HasChunkNumbers (many last)) t a d)
        (λ e. (last : Option (List ℕ)) → AreSince last → StepErr (says last) (revision_rows the_geography last next) t a d e) u a d result
    adds {X} {u} {d} result write = writes_as result (after_reads result gathers.quiet write)
        (λ _ did last are. (
          stepped_by (says last) (with_next name next) (revision_rows the_geography last next) (λ m. put_rows m (rows last)) (length (rows last)) t a b d gathers.passed (few_rows last are) u
              (λ before m desk holds is takes. added the_geography name last next r.row r.next r.kept.items (can last are) m desk is takes (read before m holds))
              (rows_changed (rows last) t u b d (subst (λ (rs : List Row). HasPut rs t u b d) (rows_are last are) did)),
          leaves last are d write.quiet,
        ))
        (λ e why last are.
        not_stepped_by (says last) (with_next name next) (revision_rows the_geography last next) (λ m. put_rows m (rows last)) (length (rows last)) t a b d gathers.passed (few_rows last are) (λ m. Unit {0}) (λ before m desk holds is takes. tt) e why.0
        (rows_unchanged (λ m. Unit {0}) (rows last) t b d e (subst (λ (rs : List Row). PutsErr rs t b d e) (rows_are last are) why.1)))

pub returns-in_err-read : goal.returns-in_err-read
returns-in_err-read g c = unread c.from_residual.result c.in_err-read.field-0.0 c.requires.begun c.in_err-read.ensures.gathers.quiet c.from_residual.ensures.1 (λ last are.
    let the_geography = c.args.geography.now in
    sought_said (TakesSome c.args.name.now (length c.counties-ranges.result.now)) (TakesNext the_geography c.args.name.now last c.args.next.now) (revision_rows the_geography last c.args.next.now) c.args.txn.now c.args.pages.now c.read_plan.new.pages c.in_err-read.field-0.0
    (λ m d is said. record { g = the_geography; last = last; many = ap length c.counties-ranges.ensures; desk = (d, is, said.takes) }) c.in_err-read.ensures.gathers.err)

pub returns-then-used-first : goal.returns-then-used-first
returns-then-used-first g c = only_read c.requires.begun c.in_ok-read.ensures.gathers.quiet
    (not_left c.args.geography.now c.args.next.now c.args.changes.now c.in_ok-read.ensures.gathers c.in_ok-read.ensures.fits c.counties-ranges.ensures c.count_changes-used.ensures c.if-used-first.true)

pub put_revision-requires-clause-few : goal.put_revision-requires-clause-few
put_revision-requires-clause-few g c = search (rules, long_drawn)

pub put_revision-requires-clause-drafted : goal.put_revision-requires-clause-drafted
put_revision-requires-clause-drafted g c = search (rules, arith, c.requires.each, c.counties-ranges.ensures)

pub put_revision-requires-clause-can : goal.put_revision-requires-clause-can
put_revision-requires-clause-can g c = record { room = c.in_ok-read.ensures.fits.0.room; left = (let less = c.if-used-first.false in omega arith) }

pub returns-in_err-put_revision : goal.returns-in_err-put_revision
returns-in_err-put_revision g c = told_on c.from_residual-in_err-put_revision.result
    (adds c.args.geography.now c.args.next.now c.args.changes.now c.in_ok-read.ensures.gathers c.in_ok-read.ensures.fits c.counties-ranges.ensures c.count_changes-used.ensures
    c.as_slice-2.result.now c.blocks-blocks.ensures.valid c.requires.next c.districts_fit.ensures c.if-used-first.false (search rules) c.desks_are_added.ensures.added c.desks_are_added.ensures.few c.next_is_one.ensures
    (Err c.in_err-put_revision.field-0.0) c.in_err-put_revision.ensures)
    c.from_residual-in_err-put_revision.ensures.1 (λ why. why)

pub returns : goal.returns
returns g c = does
    (adds c.args.geography.now c.args.next.now c.args.changes.now c.in_ok-read.ensures.gathers c.in_ok-read.ensures.fits c.counties-ranges.ensures c.count_changes-used.ensures
    c.as_slice-2.result.now c.blocks-blocks.ensures.valid c.requires.next c.districts_fit.ensures c.if-used-first.false (search rules) c.desks_are_added.ensures.added c.desks_are_added.ensures.few c.next_is_one.ensures
    (Ok c.in_ok-put_revision.field-0) c.in_ok-put_revision.ensures)
    (λ did. did)
