use Rattle.{std.proofs.{Common.{◌≡◌, ◌≤◌, length, map, refl, subst, arith}, lemmas.List.length-map}, desk_theorem.specs.claim.World.{world, move}}
use Rattle.desk_theorem.{specs.declared.event.Event.TheVariants.Commit, proofs.Worlds.{not_shown, changed_to}}
use Rattle.desk_theorem.proofs.world.World.changed.Goals as goal

pub returns-then-self-len-clause-err : goal.returns-then-self-len-clause-err
returns-then-self-len-clause-err c =
    let inside = c.self.inside in
    subst (λ w. w.1 ≡ move w.0 w.1 (Commit c.args.command.now)) c.self.view_is
    (not_shown inside.first.value (world (map (λ x. x.command) inside.changes.items) inside.acknowledged inside.shown inside.views.items) c.args.command.now
    (λ same. c.if-self-len.true (omega (arith, same, c.len.ensures, length-map inside.changes.items (λ x. x.command)))))

pub catalogue-requires : goal.catalogue-requires
catalogue-requires c =
    let inside = c.self.inside in
    subst (λ w. inside.shown ≤ length w.1.changes) c.self.view_is (omega (arith, c.if-self-len.false, c.len.ensures, length-map inside.changes.items (λ x. x.command)))

pub returns-in-Err-Memory-clause-err : goal.returns-in-Err-Memory-clause-err
returns-in-Err-Memory-clause-err c =
    let inside = c.self.inside in
    (refl, subst (λ w. w.1.shown ≡ length w.1.changes) c.self.view_is (omega (arith, c.if-self-len.false, c.len.ensures, length-map inside.changes.items (λ x. x.command))), refl)

pub returns-in-Ok-new-clause-ok : goal.returns-in-Ok-new-clause-ok
returns-in-Ok-new-clause-ok c =
    let inside = c.self.inside in
    let now = c.args.self.now in
    let shown = subst (λ w. w.1.shown ≡ length w.1.changes) c.self.view_is (omega (arith, c.if-self-len.false, c.len.ensures, length-map inside.changes.items (λ x. x.command))) in
    let all = subst (λ w. inside.shown ≡ length w.1.changes) c.self.view_is (omega (arith, c.if-self-len.false, c.len.ensures, length-map inside.changes.items (λ x. x.command))) in
    changed_to now.0 now.1 c.args.command.now inside.shown c.catalogue.result.now c.in-Ok.catalogue c.in-Ok-new.catalogue.value all shown c.catalogue.ensures c.in-Ok.ensures c.in-Ok-new.ensures.ok

pub returns-clause-err : goal.returns-clause-err
returns-clause-err c =
    let inside = c.self.inside in
    (refl, subst (λ w. w.1.shown ≡ length w.1.changes) c.self.view_is (omega (arith, c.if-self-len.false, c.len.ensures, length-map inside.changes.items (λ x. x.command))), refl)
