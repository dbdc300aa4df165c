use Rattle.{std.proofs.Common.{◌≡◌, false, inl, inr, refl, sym, ap, ◌∙◌, rules}, desk_model.specs.declared.reply.Refusal.TheVariants.Full, desk_store.specs.claim.Clerks.pages_of}
use Rattle.desk_store.{specs.declared.clerk.Clerk.Clerk, proofs.{Prepared.{IsBegun, made_ready, exhausted_full, fault_reads, not_put}, Settled.{settled_may, settled_reads}}}
use Rattle.desk_store.proofs.clerk.Clerk.prepare.Given.{Over}
use Rattle.desk_store.proofs.clerk.Clerk.prepare.Goals.{After-begin-txn, then-is_fault-via-then-is_fault, then-is_fault-via-else-is_fault+then-is_halted}
use Rattle.desk_store.proofs.clerk.Clerk.prepare.Goals as goal

works : (g : Over) (c : After-begin-txn g) → c.settle.new.self.halted ≡ false
works g c = ap (λ (v : Clerk g.row.D.Denot g.D.SectorDevice). v.halted) c.settle.ensures ∙ c.if-self.false

begun : (g : Over) (c : After-begin-txn g) → IsBegun (pages_of c.settle.new.self) c.begin-txn.result
begun g c = search (rules, works)

pub returns-in-Err-clause-err : goal.returns-in-Err-clause-err
returns-in-Err-clause-err g c = settled_may c.args.self.now c.settle.new.self (pages_of c.settle.new.self) c.args.command c.in-Err.refusal c.settle.ensures c.in-Err.ensures.err

pub returns-in-Ok-NumbersExhausted-clause-err : goal.returns-in-Ok-NumbersExhausted-clause-err
returns-in-Ok-NumbersExhausted-clause-err g c =
    let x = c.settle.new.self in
    let at = (goal.at.returns-in-Ok-NumbersExhausted-clause-err g c).After-begin-txn in
    let put = rw (c.deref.ensures, c.in-Ok-NumbersExhausted.field-0-is) at c.in-Ok-NumbersExhausted.ensures.put in
    settled_may c.args.self.now x c.put_command.new.pages c.args.command Full c.settle.ensures (
      λ on. search (rules, works),
      exhausted_full x c.put_command.new.pages c.args.command c.in-Ok.draft.catalogue c.begin-txn.result c.put_command.new.txn c.in-Ok.ensures.after (works g at) (begun g at) c.put_command.ensures.quiet put,
    )

pub returns-then-is_fault-clause-reads : goal.returns-then-is_fault-clause-reads
returns-then-is_fault-clause-reads g c =
    let x = c.settle.new.self in
    let at = (goal.at.returns-then-is_fault-clause-reads g c).After-begin-txn in
    let why = rw c.deref.ensures at c.in-Err-put_command.ensures.put in
    settled_reads c.args.self.now x _ c.settle.ensures (fault_reads x _ c.args.command c.begin-txn.result c.in-Err-put_command.e (works g at) refl refl (begun g at) c.put_command.ensures.quiet why (elim c.then-is_fault.branch [
      | then-is_fault-via-then-is_fault w ↦ inl (sym w.if-is_fault.ensures)
      | then-is_fault-via-else-is_fault+then-is_halted w ↦ inr (sym w.if-is_halted.ensures)
    ]))

pub returns-in-Err-put_command-clause-err : goal.returns-in-Err-put_command-clause-err
returns-in-Err-put_command-clause-err g c =
    let x = c.settle.new.self in
    let at = (goal.at.returns-in-Err-put_command-clause-err g c).After-begin-txn in
    let why = rw c.deref.ensures at c.in-Err-put_command.ensures.put in
    settled_may c.args.self.now x c.put_command.new.pages c.args.command c.refusal_of.result c.settle.ensures
    (rw c.refusal_of.ensures (not_put x c.put_command.new.pages c.args.command c.in-Ok.draft.catalogue c.begin-txn.result c.in-Err-put_command.e c.in-Ok.ensures.after c.in-Ok.ensures.room (works g at) (begun g at) c.put_command.ensures.quiet why (sym c.if-is_fault.ensures)))

pub returns-in-Ok-new-2-clause-ready : goal.returns-in-Ok-new-2-clause-ready
returns-in-Ok-new-2-clause-ready g c =
    let x = c.settle.new.self in
    let at = (goal.at.returns-in-Ok-new-2-clause-ready g c).After-begin-txn in
    let put = rw (c.deref.ensures, c.in-Ok-Made.field-0-is) at c.in-Ok-Made.ensures.put in
    made_ready x _ c.args.command c.in-Ok.draft.catalogue c.begin-txn.result c.put_command.new.txn _ refl c.in-Ok.ensures.after c.in-Ok.ensures.room (begun g at) c.put_command.ensures.quiet c.put_command.ensures.begun put
    (record { pages = c.in-Ok-prepare.ensures.pages; held = c.in-Ok-prepare.ensures.held; more = c.in-Ok-prepare.ensures.more; free = c.in-Ok-prepare.ensures.free }) c.in-Ok-new-2.ensures.ok c.in-Ok-new.ensures.ok
