use Rattle.{std.proofs.{Common.{◌≤◌, inl, inr, ap, subst, arith, List}, lemmas.Bool.Decides.{nat_tests, leb_tells}}, desk_gallery.specs.declared.book.LogEntry.LogEntry}
use Rattle.desk_gallery.proofs.Weighing.{begins_other}
use mathlib.Core.List.{IsPrefix}
use Rattle.desk_gallery.proofs.book.SeenPrefix.begins.Goals as goal

pub returns-clause-yes : goal.returns-clause-yes
returns-clause-yes g c told =
    let this = subst (λ (l : List LogEntry). IsPrefix l c.learn.new.self.log) (ap (λ s. s.log) c.again-both.ensures) c.learn.ensures.2 in
    let at_most : c.self.inside.number ≤ c.other.inside.number = grind (arith, nat_tests) in
    rw (← c.self.view_is, ← c.other.view_is) (begins_other g.J.GalleryId.root c.self.inside.seen.log c.other.inside.seen.log c.learn.new.self.log this c.learn.ensures.3 (omega (arith, c.self.invariant.0, c.other.invariant.0, at_most)))

pub returns-clause-other : goal.returns-clause-other
returns-clause-other g c =
    let this = subst (λ (l : List LogEntry). IsPrefix l c.learn.new.self.log) (ap (λ s. s.log) c.again-both.ensures) c.learn.ensures.2 in
    elim (leb_tells c.self.inside.number c.other.inside.number) [
      | inl most ↦ inr most.0
      | inr more ↦ inl (rw (← c.self.view_is, ← c.other.view_is) (begins_other g.J.GalleryId.root c.other.inside.seen.log c.self.inside.seen.log c.learn.new.self.log c.learn.ensures.3 this (omega (arith, c.self.invariant.0, c.other.invariant.0, more.1))))
    ]
