use Rattle.{std.specs.{FinMap.{entries, find, get, insert}, Prelude.{Some, Option}}, btree_scan.specs.{Prefixes.under, Scanning.Rest, declared.rows.Row.Row}}
use Rattle.{std.proofs.Common.{◌++◌, ℕ, List, [], ◌∷◌, Ok, sym, subst, ◌∙◌, arith, rules, ◌≡◌, Some, None, refl}, desk_model.specs.{Ranges.ranges_of, claim.Desk.Plan}}
use Rattle.{desk_model.specs.claim.Geography.GeographyModel, desk_store_catalogue.specs.Kept.AreWhole, desk_store_opening.specs.Opening.{ArePlans, IsNewPlan}}
use Rattle.{desk_store_pages.specs.Looking.{Gathers, Says}, desk_store_rows.specs.claim.{DeskRows.IsPlanAt, Keys.{plans_prefix, key_of, named}, Rows.KeyMap}}
use Rattle.{page_btree.specs.node.claim.{Entries.Entry, Places.key_cmp}, desk_store_opening.proofs.PlanNumbers.{AreNoted, all_apart, are_counts, noted_more, unused}}
use Rattle.{btree_scan.proofs.Walked.{HasNext, walk_all, walk_begins, walk_ends, walk_next, walk_on, walk_passed, walk_quiet, walk_refused}, page_store.proofs.Stops.passed_more}
use Rattle.desk_store_opening.proofs.Parts.{Plans, AreRead, none_read, all_read, has_room, not_read, one_more_read, next_plan, none_whole}
use Rattle.{desk_store_opening.proofs.Shown.{AreShown, none_shown, more_shown, all_shown}, desk_store_pages.proofs.Looking.{fails_then, looked, may_lack, not_looked}}
use Rattle.desk_store_pages.proofs.Reading.{get_unread, less_sought}
use Rattle.desk_store_opening.proofs.rows.read_plans.Goals as goal

-- a row that is there is that of a plan
plan_at : (m : KeyMap) (g : GeographyModel) (name value : List ℕ) (o : Option Plan) → IsPlanAt m (Some g) name o → get m (key_of (named name)) ≡ Some value → (p : Plan) × (o ≡ Some p)
plan_at m g name value None lacks there = search rules
plan_at m g name value (Some p) has there = (p, refl)

module _ (g : GeographyModel) (m : KeyMap) (rows : List Entry) (row : Row) (plans all : Plans) (after : List Entry) (whole : under plans_prefix (entries m) ≡ rows ++ (row.key, row.value) ∷ after) (are : ArePlans g m all) (read : AreRead rows plans all) where
  new_plan : (plan : List ℕ × Plan) × IsNewPlan g plans row m plan × AreRead (rows ++ (row.key, row.value) ∷ []) (insert plans plan.0 plan.1) all
  new_plan =
      let e : Entry = (row.key, row.value) in
      let at = next_plan m rows e after whole in
      let new_there = subst (λ (k : List ℕ). get m k ≡ Some row.value) at.key at.there in
      let plan = plan_at m g at.name row.value (get all at.name) (are.desk.plans at.name) new_there in
      let untaken = subst (λ (k : List ℕ). find key_cmp k rows ≡ None) at.key at.new in
      let new = not_read rows plans all read at.name untaken in
      let sized = are.limits.sizes at.name plan.0 plan.1 in
      let room = has_room rows plans all read at.name plan.0 untaken plan.1 are.limits.few in (
        (at.name, plan.0),
        record { all = all; desk = are.desk; tidy = are.tidy; there = plan.1; sized = sized; key = at.key; value = at.there; new = new; room = room },
        subst (λ (k : List ℕ). AreRead (rows ++ (k, row.value) ∷ []) (insert plans at.name plan.0) all) (sym at.key)
            (one_more_read rows plans all read at.name plan.0 untaken plan.1 row.value),
      )

abbrev IsAny : KeyMap → Type 0
IsAny m = Unit {0}

pub loop-taken-init : goal.loop-taken-init
loop-taken-init g c = record {
  begun = c.requires.begun;
  whole = subst (λ (plans : Plans). AreWhole (Some c.args.geography.now) plans) (sym c.new-plans.ensures) (none_whole c.args.geography.now);
  walked = walk_begins c.args.pages.now c.scan-scan.result c.scan-scan.ensures.fault
      (λ m. subst (λ (prefix : List ℕ). Rest c.scan-scan.result (entries m) (under prefix (entries m))) (c.as_slice.ensures.bytes ∙ c.plans-prefix.ensures) (c.scan-scan.ensures.rows m))
      (λ m. search (rules, Plans, AreRead, none_read, none_shown m (ranges_of c.args.geography.now)));
}

pub returns-in-None-clause-reads : goal.returns-in-None-clause-reads
returns-in-None-clause-reads g c =
    looked (passed_more c.args.pages.now c.loop-taken.pages c.next.new.pages c.loop-taken.invariant.walked.passed (c.next.ensures.passed (sym c.fault.ensures ∙ c.in-None.is))) (λ honest m holds.
    let rows = walk_all c.loop-taken.invariant.walked c.next.ensures.quiet c.next.new.self c.next.new.row c.next.result c.next.ensures.rows c.if-not-next.true (sym c.fault.ensures ∙ c.in-None.is) honest m holds in
    record {
      there = search (all_apart, are_counts, all_shown);
      read = λ all are. all_read m c.args.geography.now rows.rows c.loop-taken.plans all are.desk (rows.known.0 all are) rows.whole;
    })

pub returns-in-Some-clause-reads : goal.returns-in-Some-clause-reads
returns-in-Some-clause-reads g c =
    let quiet = walk_quiet c.loop-taken.invariant.walked c.next.ensures.quiet in
    not_looked quiet (less_sought (Unit {0}) IsAny (Says (ArePlans c.args.geography.now)) c.args.txn.now c.args.pages.now c.next.new.pages (λ m is. tt) c.in-Some.fault
    (may_lack IsAny c.args.txn.now c.args.pages.now c.next.new.pages c.in-Some.fault (get_unread IsAny c.args.txn.now c.args.pages.now c.next.new.pages c.in-Some.fault
    (walk_refused c.loop-taken.invariant.walked c.next.ensures.quiet c.next.new.self c.in-Some.fault (sym c.fault.ensures ∙ c.in-Some.is) c.next.ensures.fault))))

pub returns-in_err-plans-clause-reads : goal.returns-in_err-plans-clause-reads
returns-in_err-plans-clause-reads g c =
    let the_geography = c.args.geography.now in
    let row = c.next.new.row in
    let taken : Gathers (λ m u. HasNext plans_prefix (λ m rows. ((all : Plans) → ArePlans the_geography m all → AreRead rows c.loop-taken.plans all) × AreShown m (ranges_of the_geography) rows c.loop-taken.plans × AreNoted rows c.loop-taken.counts) m row) IsAny c.args.txn.now c.args.pages.now c.next.new.pages (Ok (tt {0})) =
    looked (walk_passed c.loop-taken.invariant.walked c.next.ensures.quiet c.next.new.self c.next.new.row c.next.result c.next.ensures.rows c.if-not-next.false c.next.ensures.going c.next.ensures.passed)
    (λ honest m holds. walk_next c.loop-taken.invariant.walked c.next.ensures.quiet c.next.new.self c.next.new.row c.next.result c.next.ensures.rows c.if-not-next.false honest m holds) in
    fails_then taken c.from_residual.result c.in_err-plans.ensures.reads c.from_residual.ensures.1 (λ m h is.
    let plan = new_plan the_geography m h.rows row c.loop-taken.plans is.0 h.after h.whole is.1 (h.known.0 is.0 is.1) in
    (plan.0, record { new = plan.1; unused = unused the_geography m h.rows row is.0 h.after h.whole is.1 c.loop-taken.counts h.known.2 }))

pub loop-taken-preserved : goal.loop-taken-preserved
loop-taken-preserved g c =
    let the_geography = c.args.geography.now in
    let row = c.next.new.row in
    let now = c.in_ok-plans.ensures in
    record {
      begun = c.loop-taken.invariant.begun ∙ sym c.next.ensures.quiet.count ∙ sym c.add_row.ensures.reads.quiet.count;
      whole = now.whole c.loop-taken.invariant.whole;
      walked = walk_on c.loop-taken.invariant.walked c.next.ensures.quiet c.next.new.self c.next.new.row c.next.result c.next.ensures.rows c.if-not-next.false c.next.ensures.going c.next.ensures.passed c.add_row.new.pages now.reads.passed
          (λ honest m holds h. (
            λ all are.
                let plan = new_plan the_geography m h.rows row c.loop-taken.plans all h.after h.whole are (h.known.0 all are) in
                subst (λ (plans : Plans). AreRead (h.rows ++ (row.key, row.value) ∷ []) plans all) (sym ((now.reads.there honest m holds).read plan.0 (record { new = plan.1; unused = unused the_geography m h.rows row all h.after h.whole are c.loop-taken.counts h.known.2 }))) plan.2,
            more_shown m (ranges_of the_geography) h.rows row c.loop-taken.plans c.in_ok-plans.plans h.after h.whole h.known.1 (now.reads.there honest m holds).there.0 (now.reads.there honest m holds).there.1,
            noted_more h.rows row c.loop-taken.counts c.add_row.new.counts h.known.2 now.noted,
          ));
    }

pub returns-clause-reads : goal.returns-clause-reads
returns-clause-reads g c = not_looked c.loop-taken.invariant.walked.passed.quiet (λ honest m holds are.
    walk_ends c.loop-taken.invariant.walked c.row_limit-taken-end.result c.row_limit-taken-end.ensures (let done = c.loop-taken-test.false in omega arith) honest m holds)
