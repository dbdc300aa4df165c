use Rattle.{std.proofs.Common.{◌≡◌, ◌+◌, ℕ, subst, arith}, desk_store_pages.{specs.claim.Puts.{HasPut, PutsErr}, proofs.Outcomes.match_of}, desk_store_rows.specs.claim.Puts.Row}
use Rattle.{geo_tables.specs.{Rows.{staged_row, staged_rows}, Staging.Stages}, desk_store_pages.proofs.Rising.{from_none, told_more_from, told_not_put_from, all_from}}
use Rattle.{geo_tables.proofs.Staging.{more_stage, none_stage}, page_store.proofs.Stops.quiet_more}
use Rattle.geo_tables.proofs.puts.put_batch.Goals as goal

pub loop-k-init : goal.loop-k-init
loop-k-init g c =
    let put = from_none c.none-fingers.result c.args.txn.now c.args.pages.now c.none-fingers.ensures.first c.none-fingers.ensures.second in
    record { put = put; begun = c.requires.begun; staged = none_stage c.args.load c.args.geography.now c.args.done }

pub returns-in_err-put_place-clause-puts : goal.returns-in_err-put_place-clause-puts
returns-in_err-put_place-clause-puts g c =
    let all = staged_rows c.args.load c.args.geography.now c.args.done c.args.rows in
    let row : ℕ → Row = λ k. staged_row c.args.load c.args.geography.now (c.args.done + k) in
    record {
      quiet = quiet_more c.args.pages.now c.loop-k.pages c.put_place.new.pages c.loop-k.invariant.put.put.passed.quiet c.put_place.ensures.puts.quiet;
      begun = c.put_place.ensures.puts.begun;
      put = match_of c.from_residual.result (λ _. HasPut all c.args.txn.now c.put_place.new.txn c.args.pages.now c.put_place.new.pages) c.in_err-put_place.field-0.0 (PutsErr all c.args.txn.now c.args.pages.now c.put_place.new.pages) c.from_residual.ensures.1
          (told_not_put_from row c.loop-k.k c.args.rows c.loop-k.fingers c.args.txn.now c.loop-k.txn c.args.pages.now c.loop-k.pages c.put_place.new.pages c.in_err-put_place.field-0.0 c.loop-k-test.true c.loop-k.invariant.put c.put_place.ensures.puts.quiet c.in_err-put_place.ensures.puts.put);
    }

pub loop-k-preserved : goal.loop-k-preserved
loop-k-preserved g c =
    let row : ℕ → Row = λ k. staged_row c.args.load c.args.geography.now (c.args.done + k) in
    let put = told_more_from row c.loop-k.k c.loop-k.fingers c.put_place.new.fingers c.args.txn.now c.loop-k.txn c.put_place.new.txn
    c.args.pages.now c.loop-k.pages c.put_place.new.pages c.loop-k.invariant.put c.in_ok-put_place.ensures.puts.put in
    let staged = more_stage c.args.load c.args.geography.now c.args.done c.loop-k.k c.loop-k.invariant.staged c.put_place.ensures.staged in
    record { put = put; begun = c.put_place.ensures.puts.begun; staged = staged }

pub returns-clause-staged : goal.returns-clause-staged
returns-clause-staged g c = subst (λ (n : ℕ). Stages c.args.load c.args.geography.now c.args.done n) (omega arith) c.loop-k.invariant.staged

pub returns-clause-puts : goal.returns-clause-puts
returns-clause-puts g c =
    let t = c.args.txn.now in
    let u = c.loop-k.txn in
    let a = c.args.pages.now in
    let b = c.loop-k.pages in
    let whole : c.loop-k.k ≡ c.args.rows = omega (arith, c.loop-k-test.false, c.loop-k.auto.k-end) in
    let put = subst (λ (n : ℕ). HasPut (staged_rows c.args.load c.args.geography.now c.args.done n) t u a b) whole
    (all_from c.loop-k.fingers (staged_rows c.args.load c.args.geography.now c.args.done c.loop-k.k) t u a b c.loop-k.invariant.put) in
    record { quiet = c.loop-k.invariant.put.put.passed.quiet; begun = c.loop-k.invariant.begun; put = put }
