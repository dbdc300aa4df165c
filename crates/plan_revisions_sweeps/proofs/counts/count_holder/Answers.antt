use Rattle.{std.{specs.FinMap.get, proofs.Common.{refl, sym, ap, subst, ◌∙◌}}, desk_store_rows.specs.{RowKeys.IsKey, claim.Keys.holding}}
use Rattle.{plan_revisions_sweeps.{specs.Checks.IsThere, proofs.{Named.count_there, Scanned.notes}}, desk_store_pages.proofs.Looking.{fails, gathered, refuses}}
use Rattle.plan_revisions_sweeps.proofs.counts.count_holder.Goals as goal

pub returns-in_err-is_there : goal.returns-in_err-is_there
returns-in_err-is_there g c = fails c.from_residual.result (gathered _ c.in_err-is_there.ensures) c.from_residual.ensures.1 (λ m is. tt)

pub returns-then-not-branch : goal.returns-then-not-branch
returns-then-not-branch g c = refuses (gathered _ c.in_ok-is_there.ensures) (λ m found is.
    let held = c.in-Some.held in
    count_there m c.args.row.now held.0 held.1 (subst (IsKey (holding held.0 held.1)) c.as_slice.ensures.bytes c.in-Some.ensures)
    (ap (get m) (sym c.holder_count.ensures) ∙ subst (IsThere c.holder_count.result m) c.if-not-branch.true found) is)

pub returns : goal.returns
returns g c = notes (gathered _ c.in_ok-is_there.ensures) c.count_one.result c.count_one.ensures (λ m u found more.
    let there = subst (IsThere c.holder_count.result m) c.if-not-branch.false found in
    let held = c.in-Some.held in
    let told = c.in-Some.ensures in
    let value = c.if-not-is_bare.ensures.yes refl in
    let row = ap (get m) (sym c.holder_count.ensures) ∙ there.1 in
    record { plan = held.0; number = held.1; fits = told.fits; key = sym c.as_slice.ensures.bytes ∙ told.is; value = value; shared = (there.0, row); more = more })
