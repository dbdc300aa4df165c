use Rattle.{std.{specs.Prelude.{Result, Ok, Err}, proofs.Common.{◌≡◌, ◌≤◌, ℕ, true, false, length, inl, inr, refl, arith}}, desk_model.specs.declared.reply.Reply.Reply}
use Rattle.{desk_model.specs.declared.reply.Reply.TheVariants.Refused, desk_store.specs.{claim.Clerks.{desk_of, disk_of, pages_of, sectors_of, Keeps}, declared.clerk.Clerk.Clerk}}
use Rattle.{desk_store.specs.{claim.Commands.{command_of, after_of, written_of, IsReady, Commits}, declared.ready.Ready.Ready}, desk_store_pages.specs.Calls.CommitsRows}
use Rattle.{desk_store_catalogue.specs.claim.Accepting.acceptance, desk_store_pages.specs.claim.Desks.InPages, page_store.specs.declared.pages.Pages.Pages}
use Rattle.page_store.specs.{claim.Transactions.{journal_of, has_halted, prepared_writes, HasFailed, CommitErr}, gate_journal.declared.error.PageError.PageError}
use Rattle.{page_store.specs.gate_journal.declared.error.PageError.TheVariants.{DeviceFault, Halted, TooManyPages}, sector_device.specs.declared.SectorDevice.Ghosts}
use Rattle.{desk_store.proofs.{Kept.accepted_is, Moved.{Left, worked, faulted}}, desk_store_pages.proofs.Openings.leaves_desk}
use Rattle.desk_store_opening.proofs.chunk_table.Committing.{both}
use Rattle.desk_model.specs.declared.reply.Refusal.TheVariants as refusal
use Rattle.desk_store.proofs.ready.Ready.commit.Goals as goal

-- A change that is committed.
module _ {D : Type 0} {g : Ghosts D} where
  -- a refused commit was a fault
  fault_failed : (n : ℕ) (a b : Pages D g) (e : PageError) → CommitErr n a b e → has_halted a ≡ false → n ≤ journal_of a → HasFailed a b
  fault_failed n a b DeviceFault why working few = why.0
  fault_failed n a b Halted why working few = both (has_halted a) why.0 working
  fault_failed n a b TooManyPages why working few = absurd (let more = why.1 in omega arith)
  fault_failed n a b _ why working few = absurd why

  module _ (x y : Clerk D g) (r : Ready) (ready : IsReady x r) (working : x.halted ≡ false) where
    -- a stop in a commit leaves the desk before or after it
    desks_left : {result : Result (Unit {0}) PageError} → CommitsRows (written_of r) (pages_of x) (pages_of y) result → Left (Keeps x) (after_of r) x (pages_of y)
    desks_left did keeps honest =
        let was = keeps.holds working (did.commits.honest honest) in
        let then = ready.rows keeps working (did.commits.honest honest) in
        leaves_desk (sectors_of x) was.m then.m (desk_of x) (after_of r) (disk_of x) (disk_of y) was.is then.is (did.any_moment honest (x.working working) (sectors_of x) was.m then.m refl was.holds then.holds)

    change_made : (reply : Reply) → reply ≡ acceptance (command_of r) → desk_of y ≡ after_of r → y.halted ≡ false → CommitsRows (written_of r) (pages_of x) (pages_of y) (Ok tt) → y.loading ≡ x.loading → Commits x r reply y
    change_made reply told desk works did loading =
        let holds : Keeps x → (disk_of y).is_honest → InPages (pages_of y) (after_of r) = λ keeps honest.
        let then = ready.rows keeps working (did.commits.honest honest) in
        record { m = then.m; holds = did.held honest then.m then.holds; is = then.is } in
        record {
          moves = worked (Keeps x) (after_of r) x y working works did.commits (desks_left did) (λ keeps honest. rw desk (holds keeps honest));
          device = record { rose = λ off on. both (has_halted (pages_of y)) on (y.working works); calm = λ off. did.commits.passed };
          loading = loading;
          outcome = inl (record {
            reply_is = told;
            desk = desk;
            working = working;
            works = works;
            free = λ keeps honest. rw (did.after honest) (ready.free keeps working (did.commits.honest honest));
          });
        }

    change_not_made : (e : PageError) → desk_of y ≡ desk_of x → y.halted ≡ true → CommitsRows (written_of r) (pages_of x) (pages_of y) (Err e) → y.loading ≡ x.loading → Commits x r (Refused refusal.Halted) y
    change_not_made e desk halts did loading =
        let failed = fault_failed (length (prepared_writes (written_of r))) (pages_of x) (pages_of y) e did.err (x.working working) ready.writes in
        record {
          moves = faulted (Keeps x) (after_of r) x y working halts desk did.commits (desks_left did)
              (λ keeps honest. inr (inl (record { command = command_of r; accepted = accepted_is (desk_of x) (command_of r) (after_of r) ready.accepted; desk = ready.accepted.desk }))) failed.rose;
          device = record { rose = λ off on. failed.rose; calm = λ off. both (has_halted (pages_of y)) failed.halted off };
          loading = loading;
          outcome = inr (record { reply_is = refl; desk = desk; halted = halts });
        }

pub returns-in-Ok : goal.returns-in-Ok
returns-in-Ok g c = change_made c.args.clerk.now _ c.args.self c.requires c.if-clerk.false c.reply-reply.result c.reply-reply.ensures refl c.if-clerk.false c.in-Ok.ensures refl

pub returns : goal.returns
returns g c = change_not_made c.args.clerk.now _ c.args.self c.requires c.if-clerk.false c.in-Err.field-0 refl refl c.in-Err.ensures refl
