use Rattle.{std.proofs.Common.{◌≡◌, ℕ, List, length, Option, Some, Result, sym, ap, subst, ◌∙◌, arith, rules, ◌⊎◌, is_some, refl}, desk_model.specs.Ranges.ranges_of}
use Rattle.desk_model.specs.{claim.{Desk.{Plan, Desk}, Geography.GeographyModel, Room.{added_rows, changed, revision_rows, command_rows, fork_rows}}, declared.kind.Kind.Kind}
use Rattle.{desk_model.specs.declared.command.Command.{Command, TheVariants.{Create, Whole, Counties, Retire, Fork}}, desk_store_catalogue.specs.Kept.revision_in}
use Rattle.{desk_store_catalogue.specs.claim.Accepting.IsAfter, desk_store_pages.specs.{Outcomes.Writes, claim.Desks.{AreWithin, InTxn}}, page_store.specs.declared.txn.Txn.Txn}
use Rattle.{desk_store_rows.specs.{Changes.with_revision, declared.value.Counters.Counters}, page_btree.specs.gets.declared.error.TreeError.TreeError}
use Rattle.{page_store.specs.{claim.Transactions.stored, declared.pages.Pages.Pages}, plan_revisions.specs.{Accepted.IsRevised, Outcomes.{StepsWhereLeft, Steps}}}
use Rattle.plan_revisions.specs.{Plans.{TakesNext, with_next, with_next_of, TakesPlan, with_plan, HasPlanAt, without_plan, TakesFork, with_fork}, claim.Rows.{added_by, HasNumbers}}
use Rattle.plan_revisions.specs.{claim.{PlanRows.{HasChunkNumbers, HasPlanNumber}, Steps.{HasStepped, IsStepped, StepErr}}, declared.change.ChangeOutcome.ChangeOutcome}
use Rattle.{plan_revisions.specs.declared.change.ChangeOutcome.TheVariants.Made, sector_device.specs.declared.SectorDevice.Ghosts, desk_store_pages.proofs.Writing.{does, told_on}}
use Rattle.plan_revisions.proofs.Accepted.{last_is, rows_added, chunks_added, created, forked, rows_forked, taken_away, next_is}
use Rattle.plan_revisions.proofs.Counted.{same_geography, changes_by, changes_now, each_told, revised_by}
use Rattle.plan_revisions_sweeps.proofs.chunk_table.Writing.{writes_as}
use Rattle.std.specs.FinMap as map_of
use Rattle.plan_revisions.proofs.puts.put_command.Goals as goal

-- A step of a desk that is known.
-- the rows of a revision that a plan got
abbrev rows_added_by : Desk → List ℕ → Desk → ℕ
rows_added_by d name e = added_rows d.geography (map_of.get d.plans name) (map_of.get e.plans name)

module _ {D : Type 0} {g : Ghosts D} where
  -- what is said of more desks, is said of one
  module _ (d e : Desk) (says : Desk → Type 0) (next : Desk → Desk) (takes : says d) (is : next d ≡ e) (rows : ℕ) (t u : Txn) (a b : Pages D g) where
    gives : (x : Desk) → x ≡ d → says x
    gives x same = subst says (sym same) takes

    stepped_as : HasStepped says next rows t u a b → HasStepped (λ x. x ≡ d) (λ x. e) rows t u a b
    stepped_as did = record {
      passed = did.passed;
      pages = did.pages;
      desk = λ honest x holds same. subst (λ (y : Desk). InTxn u (stored a) y) (ap next same ∙ is) (did.desk honest x holds (gives x same));
      writes = did.writes;
      taken = did.taken;
    }

    err_as : (x : TreeError) → StepErr says rows t a b x → StepErr (λ y. y ≡ d) rows t a b x
    err_as x why = search (arith, why, gives)

    change_as : (enough : Counters → Type 0) (change : ChangeOutcome) → IsStepped says next rows enough t u a b change → IsStepped (λ x. x ≡ d) (λ x. e) rows enough t u a b change
    change_as enough change did = search (arith, stepped_as)

    put_as : (enough : Counters → Type 0) (result : Result ChangeOutcome TreeError) → StepsWhereLeft says next rows enough t u a b result → StepsWhereLeft (λ x. x ≡ d) (λ x. e) rows enough t u a b result
    put_as enough result put = writes_as result put (change_as enough) err_as

  -- a revision of the plan that the desk has
  revision_put : (d : Desk) (name : List ℕ) (after : ℕ) (e : Desk) (r : IsRevised d name after e) (the_geography : GeographyModel) (last : Option (List ℕ)) (next : List ℕ) (t u : Txn) (a b : Pages D g) (result : Result ChangeOutcome TreeError)
      → d.geography ≡ Some the_geography → last ≡ revision_in (map_of.get d.plans name) after → next ≡ r.districts
      → StepsWhereLeft (TakesNext the_geography name last next) (with_next name next) (revision_rows the_geography last next) (HasChunkNumbers (length (changed the_geography last next))) t u a b result
      → StepsWhereLeft (λ x. x ≡ d) (λ x. e) (rows_added_by d name e) (HasChunkNumbers (added_by d name e)) t u a b result
  revision_put d name after e r the_geography last next t u a b result geography last_told next_told put =
      let same = same_geography d the_geography r.g geography r.geography in
      let rows : revision_rows the_geography last next ≡ rows_added_by d name e = (λ i. revision_rows (same i) (last_told i) (next_told i)) ∙ sym (rows_added d name after e r) in
      let chunks : length (changed the_geography last next) ≡ added_by d name e = (λ i. length (changed (same i) (last_told i) (next_told i))) ∙ sym (chunks_added d name after e r) in
      let takes : TakesNext the_geography name last next d = record { takes = record { geography = geography; plan = r.plan; there = r.there; last_is = sym (last_told ∙ last_is d name after e r); room = r.few }; within = λ limits. subst (λ (l : List ℕ). AreWithin r.plan.n l) (sym next_told) (r.within limits) } in
      let then_d : with_next name next d ≡ e = ap (λ (q : Option Plan). with_next_of d name next q) r.there ∙ ap (λ (n : List ℕ). record d { plans = map_of.insert d.plans name (with_revision r.plan n) }) next_told ∙ sym r.desk in
      subst (λ (n : ℕ). StepsWhereLeft (λ x. x ≡ d) (λ x. e) n (HasChunkNumbers (added_by d name e)) t u a b result) rows
      (subst (λ (n : ℕ). StepsWhereLeft (λ x. x ≡ d) (λ x. e) (revision_rows the_geography last next) (HasChunkNumbers n) t u a b result) chunks
      (put_as d e (TakesNext the_geography name last next) (with_next name next) takes then_d (revision_rows the_geography last next) t u a b (HasChunkNumbers (length (changed the_geography last next))) result put))

-- What is put for each command.
module _ {D : Type 0} {g : Ghosts D} where
  -- the rows of a command were put, or not
  abbrev IsPut : Desk → Command → Desk → Txn → Txn → Pages D g → Pages D g → Result ChangeOutcome TreeError → Type 0
  IsPut d q e t u a b result = StepsWhereLeft (λ x. x ≡ d) (λ x. e) (command_rows d q) (HasNumbers d q) t u a b result

  as_command : (d : Desk) (q r : Command) (e : Desk) (t u : Txn) (a b : Pages D g) (result : Result ChangeOutcome TreeError) → q ≡ r → IsAfter d q e → (IsAfter d r e → IsPut d r e t u a b result) → IsPut d q e t u a b result
  as_command d q r e t u a b result is after put = subst (λ (x : Command). IsPut d x e t u a b result) (sym is) (put (rw is at after))

  create_put : (d : Desk) (q : Command) (e : Desk) (name : List ℕ) (size : Kind × ℕ) (t u : Txn) (a b : Pages D g) (result : Result ChangeOutcome TreeError) → q ≡ Create name size → IsAfter d q e
      → StepsWhereLeft (TakesPlan name) (with_plan name size) 2 HasPlanNumber t u a b result
      → IsPut d q e t u a b result
  create_put d q e name size t u a b result is after put = as_command d q (Create name size) e t u a b result is after (λ now.
      let told = created d name size now.reply in
      put_as d e (TakesPlan name) (with_plan name size) told.0 (sym told.1 ∙ sym now.desk) 2 t u a b HasPlanNumber result put)

  retire_put : {X : Type 0} {t u : Txn} {a b : Pages D g} {result : Result X TreeError} (d : Desk) (q : Command) (e : Desk) (name : List ℕ) → q ≡ Retire name → IsAfter d q e
      → Steps (HasPlanAt name) (without_plan name) 2 t u a b result
      → Writes (λ _. IsStepped (λ x. x ≡ d) (λ x. e) (command_rows d q) (HasNumbers d q) t u a b Made) (StepErr (λ x. x ≡ d) (command_rows d q) t a b) u a b result
  retire_put {X} {t} {u} {a} {b} {result} d q e name is after put =
      let now : IsAfter d (Retire name) e = rw is at after in
      let told = taken_away d name now.reply in
      let then_is : without_plan name d ≡ e = sym told.1 ∙ sym now.desk in
      rw is (writes_as result put (λ _ did. (stepped_as d e (HasPlanAt name) (without_plan name) told.0 then_is 2 t u a b did, λ honest m next holds fit told_next. tt)) (err_as d e (HasPlanAt name) (without_plan name) told.0 then_is 2 t u a b))

  fork_put : (d : Desk) (q : Command) (e : Desk) (the_geography : GeographyModel) (name : List ℕ) (from : List ℕ × ℕ) (t u : Txn) (a b : Pages D g) (result : Result ChangeOutcome TreeError) → q ≡ Fork name from → IsAfter d q e → d.geography ≡ Some the_geography
      → StepsWhereLeft (TakesFork the_geography name from) (with_fork name from) (fork_rows the_geography) HasPlanNumber t u a b result
      → IsPut d q e t u a b result
  fork_put d q e the_geography name from t u a b result is after geography put = as_command d q (Fork name from) e t u a b result is after (λ now.
      let told = forked d name from now.reply in
      let takes = subst (λ (x : GeographyModel). TakesFork x name from d) (same_geography d told.g the_geography told.geography geography) told.takes in
      subst (λ (n : ℕ). StepsWhereLeft (λ x. x ≡ d) (λ x. e) n HasPlanNumber t u a b result) (sym (rows_forked d name from the_geography geography))
      (put_as d e (TakesFork the_geography name from) (with_fork name from) takes (sym told.desk ∙ sym now.desk) (fork_rows the_geography) t u a b HasPlanNumber result put))

  -- a revision, by its whole or by counties
  revision_as : (d : Desk) (q : Command) (e : Desk) (name : List ℕ) (after : ℕ) (t u : Txn) (a b : Pages D g) (result : Result ChangeOutcome TreeError) → ((body : List ℕ) × (q ≡ Whole name after body)) ⊎ ((body : List ℕ) × (q ≡ Counties name after body)) → IsAfter d q e
      → StepsWhereLeft (λ x. x ≡ d) (λ x. e) (rows_added_by d name e) (HasChunkNumbers (added_by d name e)) t u a b result
      → IsPut d q e t u a b result
  revision_as d q e name after t u a b result given is put = search (rules, as_command, rows_added_by)

pub returns-in-Create : goal.returns-in-Create
returns-in-Create g c = search (create_put, c.in-Create.is, c.requires.after, c.create.ensures)

pub returns-in-Ok : goal.returns-in-Ok
returns-in-Ok g c = does (retire_put c.args.shown.now c.args.command.now c.args.then.now c.in-Retire.plan c.in-Retire.is c.requires.after c.in-Ok.ensures) (λ did. did)

pub returns-in-Err : goal.returns-in-Err
returns-in-Err g c = told_on _ (retire_put c.args.shown.now c.args.command.now c.args.then.now c.in-Retire.plan c.in-Retire.is c.requires.after c.in-Err.ensures) refl (λ why. why)

-- ---- a revision, by its whole or by counties
pub next_of-next-requires : goal.next_of-next-requires
next_of-next-requires g c =
    let r = revised_by c.args.shown.now c.args.command.now c.in-Whole.plan c.in-Whole.after c.args.then.now c.in-Whole.is c.requires.after in
    ap is_some (next_is c.args.shown.now c.in-Whole.plan c.in-Whole.after c.args.then.now r)

pub add-requires-clause-each : goal.add-requires-clause-each
add-requires-clause-each g c =
    let d = c.args.shown.now in
    let geography : d.geography ≡ Some c.in-Some.geography.now = search rules in
    let r = revised_by d c.args.command.now c.in-Whole.plan c.in-Whole.after c.args.then.now c.in-Whole.is c.requires.after in
    each_told d c.in-Whole.plan c.in-Whole.after c.args.then.now r (ranges_of c.in-Some.geography.now) c.args.changes.now
    (changes_by d c.args.command.now c.in-Whole.plan c.in-Whole.after c.args.then.now c.in-Some.geography.now c.args.changes.now geography c.in-Whole.is c.requires.changes)

pub add-requires-clause-next : goal.add-requires-clause-next
add-requires-clause-next g c =
    let d = c.args.shown.now in
    let geography : d.geography ≡ Some c.in-Some.geography.now = search rules in
    let r = revised_by d c.args.command.now c.in-Whole.plan c.in-Whole.after c.args.then.now c.in-Whole.is c.requires.after in
    let is = next_is d c.in-Whole.plan c.in-Whole.after c.args.then.now r in
    ap (λ (l : List ℕ). length l) (c.next_of-next.ensures.value r.districts is) ∙ c.next_of-next.ensures.whole c.in-Some.geography.now r.districts (ap (λ (x : Desk). x.geography) r.desk ∙ geography) is

pub returns-in-Whole : goal.returns-in-Whole
returns-in-Whole g c =
    let d = c.args.shown.now in
    let q = c.args.command.now in
    let e = c.args.then.now in
    let name = c.in-Whole.plan in
    let after = c.in-Whole.after in
    let the_geography = c.in-Some.geography.now in
    let geography : d.geography ≡ Some the_geography = search rules in
    let r = revised_by d q name after e c.in-Whole.is c.requires.after in
    let last = revision_in (map_of.get d.plans name) after in
    let next = c.next_of-next.ensures.value r.districts (next_is d name after e r) in
    let changes = changes_now d name after e r (ranges_of the_geography) c.args.changes.now c.next_of-next.result.now next (changes_by d q name after e the_geography c.args.changes.now geography c.in-Whole.is c.requires.changes) in
    revision_as d q e name after c.args.txn.now c.add.new.txn c.args.pages.now c.add.new.pages c.add.result c.in-Whole.is c.requires.after
    (revision_put d name after e r the_geography last c.next_of-next.result.now c.args.txn.now c.add.new.txn c.args.pages.now c.add.new.pages c.add.result
    geography refl next (writes_as c.add.result c.add.ensures (λ change did. did last changes) (λ e why. why last changes)))

pub returns-in-Fork : goal.returns-in-Fork
returns-in-Fork g c =
    let geography : c.args.shown.now.geography ≡ Some c.in-Some.geography.now = search rules in
    fork_put c.args.shown.now c.args.command.now c.args.then.now c.in-Some.geography.now c.in-Fork.plan c.in-Fork.from c.args.txn.now c.fork.new.txn c.args.pages.now c.fork.new.pages c.fork.result c.in-Fork.is c.requires.after geography c.fork.ensures
