use Rattle.{std.{specs.FinMap.get as row_at, proofs.Common.{sym, ap, subst, ◌∙◌, arith, rules}}, desk_store_opening_tidy.specs.Owners.IsOwnedAs, page_store.proofs.Stops.quiet_none}
use Rattle.desk_store_pages.proofs.Looking.{begins, fails, finds, not_looked}
use Rattle.desk_store_opening_tidy.proofs.owners.last_of.Goals as goal

pub returns-in_err-refuse_unmarked-in-None : goal.returns-in_err-refuse_unmarked-in-None
returns-in_err-refuse_unmarked-in-None g c = fails c.from_residual.result c.in_err-refuse_unmarked-in-None.ensures c.from_residual.ensures.1
    (λ m is. ap (row_at m) c.retired.ensures ∙ subst (IsOwnedAs m c.args.plan c.args.revision) (sym c.in-None.ensures.value) is)

pub returns-in_ok-refuse_unmarked-in-None : goal.returns-in_ok-refuse_unmarked-in-None
returns-in_ok-refuse_unmarked-in-None g c = finds c.in_ok-refuse_unmarked-in-None.ensures (λ m mark. record {
  within = let few = c.ranges.revision.fits in omega arith;
  owned = λ other from to. subst (IsOwnedAs m c.args.plan other) c.in-None.ensures.value (ap (row_at m) (sym c.retired.ensures) ∙ mark);
})

pub returns-then-revision-eq0 : goal.returns-then-revision-eq0
returns-then-revision-eq0 g c = search (rules, arith, not_looked, quiet_none, c.args.pages.now, c.args.plan, c.args.revision, c.in-Some.ensures.value, c.then-revision-eq0.branch)

pub returns-else-revision-count : goal.returns-else-revision-count
returns-else-revision-count g c = begins (λ m holds.
    let some = c.if-revision-eq0.false in
    let few = c.if-revision-count.false in
    record { within = omega arith; owned = λ other from to. subst (IsOwnedAs m c.args.plan other) c.in-Some.ensures.value (omega arith, to) })
