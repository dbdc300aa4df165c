use Rattle.{std.{specs.{Prelude.Result, declared.alloc.AllocError.AllocError}, proofs.Common.{◌<◌, ℕ, subst, arith, OnOk}}, gate_journal.specs.Store.IsWithin}
use Rattle.gate_journal.specs.claim.Writes.{writes_of}
use Rattle.clerk_trials.proofs.stops.commits.first_pages.Goals as goal

pub loop-p-preserved : goal.loop-p-preserved
loop-p-preserved g c n most =
    let Within = (n : ℕ) → c.loop-p.p < n → IsWithin (writes_of c.loop-p.writes) n → IsWithin (writes_of c.put.new.self) n in
    let within = subst (λ (result : Result (Unit {0}) AllocError). OnOk result Within) c.expect.ensures c.put.ensures.within in
    let less = c.loop-p-test.true in
    within n (omega arith) (c.loop-p.invariant n most)
