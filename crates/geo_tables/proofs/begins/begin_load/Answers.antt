use Rattle.{std.proofs.Common.{◌≡◌, Err, refl, true, false}, desk_store_pages.specs.{Moments.{StopsLeave, StopsLeaveAtWork}, claim.Desks.{InPages, OpensDesk}}}
use Rattle.{desk_store_pages.specs.declared.error.StoreError.TheVariants.Full, page_store.specs.{claim.Transactions.{disk_in, IsQuiet}, declared.pages.Pages.Pages}}
use Rattle.{sector_device.specs.declared.SectorDevice.Ghosts, geo_tables.proofs.Joins.{quiet_leaves, quiet_desk, quiet_rows, started_then, whole_then}}
use Rattle.geo_tables.proofs.{Refused.{begin_after, begin_full, desk_unsealed, sealed_refused}, Steps.{not_stepped, not_stepped_after, step_after, was_halted}}
use Rattle.sector_device.proofs.Moments.{leaves_more}
use Rattle.geo_tables.proofs.begins.begin_load.Goals as goal

-- a stop in a step after calls that read at most
stops_after : {D : Type 0} {g : Ghosts D} {a b : Pages D g} (c : Pages D g) → IsQuiet a b → ((disk_in c).is_honest → (disk_in b).is_honest) → StopsLeaveAtWork (InPages b) OpensDesk b c → StopsLeave (InPages a) OpensDesk a c
stops_after {a = a} {b = b} c quiet honest_then step honest working sectors d whole holds =
    let then = honest_then honest in
    leaves_more (OpensDesk sectors d) (disk_in a) (disk_in b) (disk_in c) (quiet_leaves quiet then working sectors d whole holds)
    (step honest sectors d (whole_then quiet sectors whole) (quiet_desk quiet then d holds))

pub returns-in_err-refuse_sealed-clause-any_moment : goal.returns-in_err-refuse_sealed-clause-any_moment
returns-in_err-refuse_sealed-clause-any_moment g c = quiet_leaves c.refuse_sealed.ensures.quiet

pub returns-in_err-number-clause-any_moment : goal.returns-in_err-number-clause-any_moment
returns-in_err-number-clause-any_moment g c = stops_after c.begin_next.new.pages c.refuse_sealed.ensures.quiet c.begin_next.ensures.step.commits.honest c.begin_next.ensures.any_moment

pub returns-clause-any_moment : goal.returns-clause-any_moment
returns-clause-any_moment g c = stops_after c.begin_next.new.pages c.refuse_sealed.ensures.quiet c.begin_next.ensures.step.commits.honest c.begin_next.ensures.any_moment

pub returns-clause-begun : goal.returns-clause-begun
returns-clause-begun g c = λ honest d holds.
    let then = quiet_desk c.refuse_sealed.ensures.quiet (c.begin_next.ensures.step.commits.honest honest) d holds in
    (c.in_ok-number.ensures.begun honest d then _ refl refl, desk_unsealed c.refuse_sealed.new.pages c.begin_next.new.pages c.begin_next.ensures.step.commits.honest c.in_ok-refuse_sealed.ensures.none.lack honest d then)

pub returns-clause-number : goal.returns-clause-number
returns-clause-number g c = λ honest m holds. c.in_ok-number.ensures.number honest m (quiet_rows c.refuse_sealed.ensures.quiet (c.begin_next.ensures.step.commits.honest honest) m holds)

pub returns-then-not-has_places-clause-any_moment : goal.returns-then-not-has_places-clause-any_moment
returns-then-not-has_places-clause-any_moment g c = quiet_leaves c.refuse_sealed.ensures.quiet

pub begin_next-requires-clause-started : goal.begin_next-requires-clause-started
begin_next-requires-clause-started g c =
    started_then c.in_ok-refuse_sealed.ensures.none.passed 2 c.in_ok-txn.ensures (c.if-not-has_places.ensures.0 refl).1.0 (c.if-not-has_places.ensures.0 refl).1.1

pub returns-in_err-txn-clause-step : goal.returns-in_err-txn-clause-step
returns-in_err-txn-clause-step g c = was_halted c.in_err-txn.field-0.0 c.from_residual.result c.in_err-txn.ensures c.from_residual.ensures.1 (c.in_err-txn.ensures.1, refl)

pub returns-in_err-refuse_sealed-clause-step : goal.returns-in_err-refuse_sealed-clause-step
returns-in_err-refuse_sealed-clause-step g c =
    not_stepped c.in_err-refuse_sealed.field-0.0 c.from_residual-in_err-refuse_sealed.result c.in_ok-txn.ensures.working c.refuse_sealed.ensures.quiet c.from_residual-in_err-refuse_sealed.ensures.1
    (sealed_refused c.args.geography.value c.args.pages.now c.refuse_sealed.new.pages c.in_err-refuse_sealed.field-0.0 c.in_err-refuse_sealed.ensures.none)

pub returns-then-not-has_places-clause-step : goal.returns-then-not-has_places-clause-step
returns-then-not-has_places-clause-step g c =
    not_stepped Full (Err Full) c.in_ok-txn.ensures.working c.refuse_sealed.ensures.quiet refl
    (begin_full c.args.geography.value c.args.pages.now c.refuse_sealed.new.pages c.in_ok-refuse_sealed.ensures.none.passed (desk_unsealed c.refuse_sealed.new.pages c.refuse_sealed.new.pages (λ h. h) c.in_ok-refuse_sealed.ensures.none.lack) c.in_ok-txn.txn c.in_ok-txn.ensures
    (λ room. let clash : false ≡ true = c.if-not-has_places.ensures.1 (rw c.deref.ensures room) in cc))

pub returns-in_err-number-clause-step : goal.returns-in_err-number-clause-step
returns-in_err-number-clause-step g c =
    not_stepped_after c.in_ok-refuse_sealed.ensures.none.passed c.in_ok-txn.ensures.working c.from_residual-in_err-number.result c.in_err-number.ensures.step c.from_residual-in_err-number.ensures.1
    (begin_after c.args.geography.value c.args.pages.now c.refuse_sealed.new.pages c.in_ok-refuse_sealed.ensures.none.passed (desk_unsealed c.refuse_sealed.new.pages c.refuse_sealed.new.pages (λ h. h) c.in_ok-refuse_sealed.ensures.none.lack)
    c.begin_next.new.pages c.in_ok-txn.ensures.working c.begin_next.ensures.step.commits.honest c.in_err-number.field-0.0 c.in_err-number.ensures.step.commits.err)

pub returns-clause-step : goal.returns-clause-step
returns-clause-step g c = step_after c.in_ok-refuse_sealed.ensures.none.passed c.in_ok-txn.ensures.working c.in_ok-number.ensures.step
