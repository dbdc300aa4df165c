use Rattle.{std.proofs.Common.{Bool, true, false, subst, refl}, chunk_table.{specs.Holding.{Stands, WasHeld}, proofs.Writing.{after_reads, only_read, unread}}}
use Rattle.{chunk_table.proofs.HeldChunks.{held_already, held_after, unheld_there, not_held_after, not_told}, desk_store_pages.proofs.Writing.{does, told_on}}
use Rattle.chunk_table.proofs.holds.hold.Goals as goal

pub returns-in_err-is_held : goal.returns-in_err-is_held
returns-in_err-is_held g c =
    let e = c.in_err-is_held.field-0.0 in
    let why = c.in_err-is_held.ensures in
    unread c.from_residual.result e c.requires.begun why.quiet c.from_residual.ensures.1
    (not_told c.args.plan c.args.number (λ m. Unit {0}) c.args.txn.now c.args.pages.now c.is_held.new.pages (λ m. Unit {0}) (λ m limit may can fits. tt) e why.err)

pub returns-then-branch : goal.returns-then-branch
returns-then-branch g c =
    let looks = c.in_ok-is_held.ensures in
    let stands : WasHeld true c.args.plan c.args.number c.args.txn.now c.args.pages.now c.is_held.new.pages = λ honest m holds. subst (λ (b : Bool). Stands b c.args.plan c.args.number m) c.if-branch.true (looks.there honest m holds) in
    only_read c.requires.begun looks.quiet (held_already c.args.plan c.args.number c.args.txn.now looks.passed stands, stands, refl)

pub hold_unheld-requires-clause-unheld : goal.hold_unheld-requires-clause-unheld
hold_unheld-requires-clause-unheld g c =
    unheld_there c.args.plan c.args.number c.args.txn.now c.in_ok-is_held.ensures.passed (λ honest m holds. subst (λ (b : Bool). Stands b c.args.plan c.args.number m) c.if-branch.false (c.in_ok-is_held.ensures.there honest m holds))

pub returns-in_err-hold_unheld : goal.returns-in_err-hold_unheld
returns-in_err-hold_unheld g c =
    told_on c.from_residual-in_err-hold_unheld.result (after_reads _ c.in_ok-is_held.ensures.quiet c.in_err-hold_unheld.ensures) c.from_residual-in_err-hold_unheld.ensures.1
    (λ why. not_held_after c.args.plan c.args.number (λ m. Unit {0}) c.args.txn.now c.args.pages.now c.is_held.new.pages c.hold_unheld.new.pages c.in_err-hold_unheld.field-0.0 c.in_ok-is_held.ensures.passed why.0 why.1)

pub returns : goal.returns
returns g c =
    let looks = c.in_ok-is_held.ensures in
    let did = c.in_ok-hold_unheld.ensures in
    let lacks : WasHeld false c.args.plan c.args.number c.args.txn.now c.args.pages.now c.hold_unheld.new.pages = λ honest m holds.
    subst (λ (b : Bool). Stands b c.args.plan c.args.number m) c.if-branch.false (looks.there (did.quiet.honest honest) m holds) in
    does (after_reads _ looks.quiet did) (λ held. (held_after c.args.plan c.args.number looks.passed held, lacks))
