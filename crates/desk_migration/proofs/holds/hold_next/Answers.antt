use Rattle.{std.{specs.Prelude.Option, proofs.Common.{refl, subst, rules}}, desk_migration.specs.{Walks.{IsNextPair, IsWalking}, declared.parts.HeldPair.HeldPair}}
use Rattle.{desk_migration.proofs.{Pairs.still_walking, Turns.{less_not_held, not_found, pair_not_taken, pair_taken}}, desk_store_pages.proofs.Writing.{does, told_on}}
use Rattle.desk_store_opening.proofs.chunk_table.Writing.{after_reads, only_read, unread}
use Rattle.desk_migration.proofs.holds.hold_next.Goals as goal

pub returns-in_err-next_pair-clause-holds : goal.returns-in_err-next_pair-clause-holds
returns-in_err-next_pair-clause-holds g c =
    let why = c.in_err-next_pair.ensures.looks in
    search (rules, unread, c.requires.begun, why.quiet, c.from_residual.ensures.1, less_not_held, not_found 1 (IsWalking c.args.walk.now) c.args.txn.now c.args.pages.now c.next_pair.new.pages c.in_err-next_pair.field-0.0 why.err)

pub returns-in-None-clause-holds : goal.returns-in-None-clause-holds
returns-in-None-clause-holds g c = only_read c.requires.begun c.in_ok-next_pair.ensures.looks.quiet (
  c.in_ok-next_pair.ensures.looks.passed,
  refl,
  λ honest m holds known.
      let is = (c.in_ok-next_pair.ensures.looks.there honest m holds).1 known.0 in
      ((is.0, known.1), subst (λ (o : Option HeldPair). IsNextPair m o) c.in-None.is is.1),
)

pub returns-in_err-hold_unheld_with-in-Some-clause-holds : goal.returns-in_err-hold_unheld_with-in-Some-clause-holds
returns-in_err-hold_unheld_with-in-Some-clause-holds g c =
    let found = c.in_ok-next_pair.ensures.looks in
    told_on c.from_residual-in_err-hold_unheld_with-in-Some.result (after_reads _ found.quiet c.in_err-hold_unheld_with-in-Some.ensures) c.from_residual-in_err-hold_unheld_with-in-Some.ensures.1
    (λ why. pair_not_taken c.in-Some.pair (IsWalking c.args.walk.now) (IsWalking c.next_pair.new.walk) c.args.fingers.now c.args.txn.now c.args.pages.now c.next_pair.new.pages c.hold_unheld_with.new.pages
    c.in_err-hold_unheld_with-in-Some.field-0.0 (λ m walking. walking.tidy) found.passed
    (λ honest m holds walking. let is = (found.there honest m holds).1 walking in (is.0, subst (λ (o : Option HeldPair). IsNextPair m o) c.in-Some.is is.1)) why.0 why.1)

pub returns-in_ok-hold_unheld_with-in-Some-clause-holds : goal.returns-in_ok-hold_unheld_with-in-Some-clause-holds
returns-in_ok-hold_unheld_with-in-Some-clause-holds g c =
    let found = c.in_ok-next_pair.ensures.looks in
    let then = IsWalking c.next_pair.new.walk in
    does (after_reads _ found.quiet c.in_ok-hold_unheld_with-in-Some.ensures)
    (pair_taken c.in-Some.pair (IsWalking c.args.walk.now) then c.args.fingers.now c.hold_unheld_with.new.fingers c.args.txn.now c.hold_unheld_with.new.txn c.args.pages.now c.next_pair.new.pages c.hold_unheld_with.new.pages
    (λ m plan number is walking. still_walking c.named_is_held.ensures m plan number is c.next_pair.new.walk walking) found.passed
    (λ honest m holds walking. let is = (found.there honest m holds).1 walking in (is.0, subst (λ (o : Option HeldPair). IsNextPair m o) c.in-Some.is is.1)))
