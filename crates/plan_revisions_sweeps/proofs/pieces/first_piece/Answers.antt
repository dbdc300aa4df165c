use Rattle.std.{specs.Prelude.{All, get_or}, proofs.{Common.{take, sym, subst, ◌∙◌, take_all, arith}, lemmas.List.take_more}}
use Rattle.{std.proofs.lemmas.List.Elements.{All-contains, All-nil, All-push, Contains-get_or}, plan_revisions_sweeps.specs.Finding.{IsDone, IsSoughtLeft}}
use Rattle.desk_store_pages.proofs.Looking.{begins, both, fails_then, finds}
use Rattle.plan_revisions_sweeps.proofs.pieces.first_piece.Goals as goal

pub loop-number-init : goal.loop-number-init
loop-number-init g c = record { begun = c.requires.begun; looked = begins (λ m holds rows. (All-nil (IsDone m), (λ number from below. absurd (omega arith), tt))) }

pub returns-in_err-seek_left : goal.returns-in_err-seek_left
returns-in_err-seek_left g c = fails_then c.loop-number.invariant.looked c.from_residual.result c.in_err-seek_left.ensures c.from_residual.ensures.1 (λ m was rows. rows)

pub returns-then-branch : goal.returns-then-branch
returns-then-branch g c = finds (both c.loop-number.invariant.looked c.in_ok-seek_left.ensures) (λ m is rows.
    let numbers = c.args.numbers.now in
    let i = c.loop-number.number-index in
    let number = get_or numbers i 0 in
    let left = subst (IsSoughtLeft number c.seek_left.new.gap c.seek_left.new.row.key m) c.if-branch.true (is.1 rows (is.0 rows).1) in
    let among = Contains-get_or numbers i 0 c.loop-number-test.true in
    record { number = number; piece = left.0.piece; among = among; fits = left.0.fits; key_is = left.0.key_is; unshared = left.1 })

pub loop-number-preserved : goal.loop-number-preserved
loop-number-preserved g c = record {
  begun = c.loop-number.invariant.begun ∙ sym c.in_ok-seek_left.ensures.quiet.count;
  looked = finds (both c.loop-number.invariant.looked c.in_ok-seek_left.ensures) (λ m is rows.
      let numbers = c.args.numbers.now in
      let i = c.loop-number.number-index in
      let number = get_or numbers i 0 in
      let left = subst (IsSoughtLeft number c.seek_left.new.gap c.seek_left.new.row.key m) c.if-branch.false (is.1 rows (is.0 rows).1) in
      (subst (All (IsDone m)) (sym (take_more numbers i 0 c.loop-number-test.true)) (All-push (IsDone m) (take i numbers) number (is.0 rows).0 left.0), left.1));
}

pub returns : goal.returns
returns g c = finds c.loop-number.invariant.looked (λ m is rows number among.
    let numbers = c.args.numbers.now in
    All-contains (IsDone m) numbers number (subst (All (IsDone m)) (take_all c.loop-number.number-index numbers c.loop-number-test.false) (is rows).0) among)
