use Rattle.{std.{specs.Prelude.Option, proofs.Common.{◌<◌, ℕ, List, length, get_or, Bool, true, false, sym, subst, rules}}, desk_migration.specs.claim.Holding.IsUnheld}
use Rattle.{desk_migration.{specs.Walks.{Enters, IsHeldTo, IsNextPart}, proofs.Walking.{passes, reaches, some_of}}, desk_store_rows.specs.claim.{Keys.holding, Rows.Lacks}}
use Rattle.desk_store_pages.proofs.Looking.{both, fails, fails_then, finds}
use Rattle.desk_migration.proofs.walks.look.Goals as goal

pub returns-in_err-enter-clause-looks : goal.returns-in_err-enter-clause-looks
returns-in_err-enter-clause-looks g c = fails c.from_residual.result c.in_err-enter.ensures.looks c.from_residual.ensures.1 (λ m tidy. tidy)

pub returns-then-not-branch-clause-looks : goal.returns-then-not-branch-clause-looks
returns-then-not-branch-clause-looks g c = finds c.in_ok-enter.ensures.looks (λ m is. (
  tt,
  λ walking. let now = is walking in (now.0, rw c.if-not-branch.true at now.1),
))

pub returns-in_err-found-clause-looks : goal.returns-in_err-found-clause-looks
returns-in_err-found-clause-looks g c = fails_then c.in_ok-enter.ensures.looks c.from_residual-in_err-found.result c.in_err-found.ensures.looks c.from_residual-in_err-found.ensures.1 (λ m was tidy. tt)

pub bounds-as_slice-place : goal.bounds-as_slice-place
bounds-as_slice-place g c = search (rules, c.in-Some.place, some_of, c.in_ok-found.ensures.within)

pub pass-requires-clause-within : goal.pass-requires-clause-within
pass-requires-clause-within g c = c.in_ok-enter.ensures.within c.if-not-branch.false

pub returns-in-Some-clause-looks : goal.returns-in-Some-clause-looks
returns-in-Some-clause-looks g c = finds (both c.in_ok-enter.ensures.looks c.in_ok-found.ensures.looks) (λ m is.
    let walk = c.enter.new.walk in
    let place = c.in-Some.place in
    let within = some_of _ place (λ k. k < length walk.part.numbers.items) c.in_ok-found.ensures.within c.in-Some.is in
    let lacks = some_of _ place (λ k. Lacks m (holding walk.part.plan (get_or walk.part.numbers.items k 0))) is.1.0 c.in-Some.is in (
      subst (λ (l : List ℕ). Lacks m (holding walk.part.plan (get_or l place 0))) (sym c.as_slice.ensures.value) lacks,
      λ walking.
          let now = is.0 walking in
          let next : IsNextPart c.args.walk.now walk m = subst (λ (b : Bool). Enters b c.args.walk.now walk m) c.if-not-branch.false now.1 in
          let held = subst (λ (o : Option ℕ). IsHeldTo walk.part m o) c.in-Some.is (is.1.1 (now.0.tidy, now.0.seen, (now.0.within next.within).held)) in
          let reached = reaches m walk now.0 next.within place held within lacks in
          (reached.0, subst (λ (l : List ℕ). IsUnheld m walk.part.plan (get_or l place 0)) (sym c.as_slice.ensures.value) reached.1),
    ))

pub returns-in-None-clause-looks : goal.returns-in-None-clause-looks
returns-in-None-clause-looks g c = finds (both c.in_ok-enter.ensures.looks c.in_ok-found.ensures.looks) (λ m is. (
  search rules,
  λ walking.
      let walk = c.enter.new.walk in
      let now = is.0 walking in
      let next : IsNextPart c.args.walk.now walk m = subst (λ (b : Bool). Enters b c.args.walk.now walk m) c.if-not-branch.false now.1 in
      let held = subst (λ (o : Option ℕ). IsHeldTo walk.part m o) c.in-None.is (is.1.1 (now.0.tidy, now.0.seen, (now.0.within next.within).held)) in
      passes m walk now.0 next.within c.args.walk.now c.pass.new.walk next held c.pass.ensures.from c.pass.ensures.outside c.pass.ensures.seen,
))
