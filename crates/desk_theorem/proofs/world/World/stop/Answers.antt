use Rattle.{std.proofs.{Common.{◌≡◌, ◌∙◌, ◌≤◌, ap, map, replicate, vec_len, sym, subst, refl, arith, length}, lemmas.List.length-map}, desk_theorem.specs.Steps.Follow}
use Rattle.desk_theorem.{specs.{claim.{Law.IsOrdered, World.{world, move}}, declared.event.Event.TheVariants.Stop}, proofs.{Core.moved_ordered, Worlds.{stopped_to, follow_prefix}}}
use Rattle.desk_theorem.proofs.world.World.stop.Goals as goal

pub invariant_of-self : goal.invariant_of-self
invariant_of-self c =
    let inside = c.self.inside in
    let old = world (map (λ x. x.command) inside.changes.items) inside.acknowledged inside.shown inside.views.items in
    let high : c.args.kept ≤ length old.changes = omega (arith, c.if-kept-len.false, c.len.ensures, length-map inside.changes.items (λ x. x.command)) in
    let same : vec_len inside.views ≡ length inside.views.items = omega arith in
    let is = stopped_to inside.first.value inside.changes.items c.truncate.new.self.items inside.acknowledged inside.shown c.args.kept inside.views.items
    c.fill.new.self.items c.truncate.ensures.items (c.fill.ensures.items (λ y e. e) ∙ ap (λ n. replicate n 0) same) c.if-kept-self.false high in (
      subst (Follow inside.first.value) (sym c.truncate.ensures.items) (follow_prefix inside.first.value inside.changes.items c.args.kept c.self.invariant.0),
      subst IsOrdered (sym is) (moved_ordered inside.first.value old (Stop c.args.kept) c.self.invariant.1),
    )

pub returns-clause-moved : goal.returns-clause-moved
returns-clause-moved c =
    let inside = c.self.inside in
    let high : c.args.kept ≤ length (map (λ x. x.command) inside.changes.items) = omega (arith, c.if-kept-len.false, c.len.ensures, length-map inside.changes.items (λ x. x.command)) in
    let same : vec_len inside.views ≡ length inside.views.items = omega arith in
    let is = stopped_to inside.first.value inside.changes.items c.truncate.new.self.items inside.acknowledged inside.shown c.args.kept inside.views.items
    c.fill.new.self.items c.truncate.ensures.items (c.fill.ensures.items (λ y e. e) ∙ ap (λ n. replicate n 0) same) c.if-kept-self.false high in
    let new = world (map (λ x. x.command) c.truncate.new.self.items) c.args.kept c.args.kept c.fill.new.self.items in
    (refl, subst (λ w. new ≡ move w.0 w.1 (Stop c.args.kept)) c.self.view_is is)
