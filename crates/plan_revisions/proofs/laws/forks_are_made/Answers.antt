use Rattle.std.{specs.{FinMap.{FinMap, insert}, Prelude.Contains}, proofs.Common.{rules, ◌≡◌, ◌<◌, ◌≤◌, ◌*◌, ◌^◌, ℕ, true, List, [], ◌∷◌, length, Some, refl, ap, subst, arith}}
use Rattle.{std.proofs.lemmas.List.Elements.{All-cons, All-contains, All-nil}, desk_model.specs.{Ranges.{ranges_of, RangesAreCounties, ListsAreCut}, claim.Ranges.cut}}
use Rattle.{desk_model.specs.{claim.{Desk.{Plan, Desk, name_cmp}, Geography.GeographyModel}, declared.kind.Kind.Kind}, desk_store_pages.specs.claim.Desks.{AreWithin, IsDeskMap}}
use Rattle.desk_store_rows.specs.{Changes.{desk_with, plan_row_of}, ForkLaws.SharesMakeDesks, RevisionSteps.AreKept, Rows.SameTag, Shares.with_shared, claim.Rows.KeyMap}
use Rattle.desk_store_rows.specs.{Steps.{chunks_more, one_plan_more}, TidyLaws.{ChunksAreKept, MakesRevision, NextIsOne, PlansComeAndGoTidily}, claim.DeskRows.{HasPlan, IsDesk}}
use Rattle.{desk_store_rows.specs.{claim.RevisionRows.HasRevision, declared.value.{Counters.Counters, StoredPlan.StoredPlan}}, plan_revisions.specs.PlanRows.IsFound}
use Rattle.plan_revisions.specs.{Forking.{CanMake, IsSource, MakesFork, forked_map, row_like, with_made}, PlanLaws.{PlansAreMade, PlansAreTold, RowFits}}
use Rattle.{plan_revisions.specs.Plans.{HasRevisionAt, TakesFork, with_fork, with_plan}, desk_model.proofs.Maps.insert_again, desk_store_rows.proofs.Forked.can_hold}
use Rattle.{desk_store_rows.proofs.{Frames.{chunk_stays, other_tag, put_is_there, put_keeps}, TidyParts.naming_moves}, plan_revisions.proofs.ChunkLists.few_counties}
use Rattle.plan_revisions.proofs.{Creating.{IsSize, created_desk}, Desks.{is_with, is_still, numbers_are}, LastRevision.{as_many, told_plan, last_named}, Within.revision_within}
use Rattle.plan_revisions.proofs.{Limits.{put_there, with_one_more}, Looking.{StandsAt, stands_at}, Made.{numbers_moved, rows_keep}}
use Rattle.plan_revisions.proofs.laws.forks_are_made.Goals as goal

-- The rows of a fork make the desk with it.
-- ---- chunks that can be kept stay so where the parts and the pieces do
kept_stay : (m n : KeyMap) (plan : ℕ) (numbers : List ℕ) (counties : List (List ℕ)) → SameTag 82 m n → SameTag 107 m n → AreKept m plan numbers counties → AreKept n plan numbers counties
kept_stay m n plan numbers counties parts pieces kept = record {
  count = kept.count;
  each = λ county within. let is = kept.each county within in search (naming_moves, chunk_stays);
}

module _ (told : PlansAreTold) (made : PlansAreMade) (tidily : PlansComeAndGoTidily) (one : NextIsOne) (kept_law : ChunksAreKept) (shares : SharesMakeDesks) (counties : RangesAreCounties) (cut_law : ListsAreCut) where
  module _ (g : GeographyModel) (name : List ℕ) (from : List ℕ × ℕ) (source : StoredPlan) (next : Counters) (numbers : List ℕ) (can : CanMake g name source next) (m : KeyMap) (d : Desk) (is : IsDeskMap m d) (says : TakesFork g name from d) (read : IsSource from (length (ranges_of g)) source next numbers m) where
    abbrev origin : HasRevisionAt g from.0 from.1 d says.districts
    origin = says.source

    abbrev size : Kind × ℕ
    size = (source.kind, source.districts)

    abbrev row : StoredPlan
    row = row_like source next.plan

    abbrev then : KeyMap
    then = with_made name source next m

    abbrev first : Plan
    first = record { kind = source.kind; n = source.districts; revisions = [] }

    -- ---- what was read
    source_is : (source ≡ plan_row_of source.number origin.plan) × HasPlan m g from.0 source.number origin.plan
    source_is = told_plan told m d g from.0 source origin.plan is.desk origin.geography origin.there read.found can.row_fits

    stands : StandsAt g (ranges_of g) source from.1 says.districts m
    stands = stands_at told cut_law g (ranges_of g) from.0 source from.1 says.districts m d refl can.row_fits read.found is origin

    abbrev there : HasRevision m source.number from.1 (cut g says.districts)
    there = stands.is.has

    same : numbers ≡ there.numbers
    same = read.names there.numbers (last_named m g source.number from.1 says.districts (length (ranges_of g)) refl there)

    small : (number : ℕ) → Contains numbers number → number < 2 ^ 64
    small number among = All-contains (λ (n : ℕ). n < 2 ^ 64) there.numbers number there.names.each (subst (λ (l : List ℕ). Contains l number) same among)

    kept : AreKept m source.number numbers (cut g says.districts)
    kept =
        let few = stands.few in
        let most = can.row_fits.revisions_fit in
        rw same (kept_law m source.number from.1 there.numbers (cut g says.districts) can.row_fits.number_fits (omega arith) there.names there)

    -- ---- the plan is made
    sized : IsSize size
    sized =
        let limits = is.limits.sizes from.0 origin.plan origin.there in
        let some = limits.some in
        let kind : source.kind ≡ origin.plan.kind = ap (λ (r : StoredPlan). r.kind) source_is.0 in
        let n : source.districts ≡ origin.plan.n = ap (λ (r : StoredPlan). r.districts) source_is.0 in
        record { some = omega arith; few = rw (n, kind) limits.most; fits = can.row_fits.districts_fit }

    created : IsDeskMap then (with_plan name size d)
    created = created_desk made tidily one name size can.is_name sized m d next is
        (record { g = g; geography = origin.geography; missing = says.missing; room = says.room }) can.fit read.is_next can.room

    next_is : created.tidy.next ≡ one_plan_more next
    next_is = numbers_are one then created.tidy (one_plan_more next)
        (record { plan_fits = can.room; chunk_fits = can.fit.chunk_fits; load_fits = can.fit.load_fits }) (numbers_moved m name row (one_plan_more next))

    has : HasPlan then g name next.plan first
    has =
        let found : IsFound then name (Some row) = search (rules, put_keeps, other_tag, put_is_there) in
        let fits : RowFits row = record { number_fits = can.fit.plan_fits; districts_fit = can.row_fits.districts_fit; revisions_fit = omega arith } in
        (told_plan told then (with_plan name size d) g name row first created.desk origin.geography (put_there d.plans name first) found fits).1

    -- ---- it can hold the chunks, and gets the revision
    few : length numbers ≤ 128 * 2 ^ 8
    few =
        let most = few_counties counties g can.blocks in
        let many = kept.count in
        let as_many = as_many g says.districts in
        omega arith

    kept_then : AreKept then source.number numbers (cut g says.districts)
    kept_then =
        let parts = rows_keep 82 m name row (one_plan_more next) (λ e. absurd (omega arith)) (λ e. absurd (omega arith)) in
        let pieces = rows_keep 107 m name row (one_plan_more next) (λ e. absurd (omega arith)) (λ e. absurd (omega arith)) in
        kept_stay m then source.number numbers (cut g says.districts) parts pieces kept

    forked : MakesRevision g (insert d.plans name first) name first says.districts (chunks_more (one_plan_more next) 0) true (forked_map name source next numbers m)
    forked = subst (λ (n : Counters). MakesRevision g (insert d.plans name first) name first says.districts (chunks_more n 0) true (with_shared then n name row numbers)) next_is
        (shares then created.tidy created.version source.number g (insert d.plans name first) name next.plan first says.districts numbers
        (is_with then (with_plan name size d) g origin.geography created.desk) (put_there d.plans name first) has stands.long (omega arith) few kept_then)

    -- ---- the desk
    abbrev new_plan : Plan
    new_plan = record { kind = source.kind; n = source.districts; revisions = says.districts ∷ [] }

    fork_within : AreWithin source.districts says.districts
    fork_within =
        let n : source.districts ≡ origin.plan.n = ap (λ (r : StoredPlan). r.districts) source_is.0 in
        search (rules, revision_within origin.plan from.1 says.districts origin.is (is.limits.sizes from.0 origin.plan origin.there).within)

    with_new : record d { plans = insert d.plans name new_plan } ≡ with_fork name from d
    with_new =
        let kind : source.kind ≡ origin.plan.kind = ap (λ (r : StoredPlan). r.kind) source_is.0 in
        let n : source.districts ≡ origin.plan.n = ap (λ (r : StoredPlan). r.districts) source_is.0 in
        search rules

    fork_made : MakesFork name from source next numbers m d
    fork_made = record {
      can = (created.tidy.next.plan, can_hold then created.tidy name row can.fit.plan_fits has.row, small);
      is = subst (λ (e : Desk). IsDeskMap (forked_map name source next numbers m) e) with_new (record {
        desk = is_still (forked_map name source next numbers m) d g (insert d.plans name new_plan) origin.geography (subst (λ (plans : FinMap name_cmp Plan). IsDesk (forked_map name source next numbers m) (desk_with g plans)) (insert_again d.plans name first new_plan) forked.desk);
        tidy = forked.tidy.0;
        version = forked.tidy.2;
        limits = with_one_more d name new_plan (record { some = sized.some; most = sized.few; within = All-cons (AreWithin source.districts) says.districts [] fork_within (All-nil (AreWithin source.districts)) }) says.room is.limits;
      });
    }

pub returns : goal.returns
returns c = fork_made c.plans_are_told.ensures c.plans_are_made.ensures c.plans_come_and_go_tidily.ensures c.next_is_one.ensures c.chunks_are_kept.ensures c.shares_make_desks.ensures c.ranges_are_counties.ensures c.lists_are_cut.ensures
