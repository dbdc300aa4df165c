use Rattle.{std.proofs.Common.{sym, ◌∙◌, ap, subst, List, ℕ}, desk_gallery.{specs.{Rules.{key_after, NoneBy}, declared.book.LogEntry.LogEntry}, proofs.Pasts.prefix_trans}}
use Rattle.desk_gallery.proofs.{Keeping.{look_moves, no_entry}, Weighing.whole_begins}
use mathlib.Core.List.{IsPrefix}
use Rattle.desk_gallery.proofs.book.Whole.begins_with.Goals as goal

pub compare_exchange-requires : goal.compare_exchange-requires
compare_exchange-requires g c =
    let h = c.self.invariant.1 in
    let offer = c.plain-offer.ensures in
    let at = sym (ap (λ w. w.book) h) in (
      ap (λ w. w.tracked) h,
      c.learn.ensures.0 ∙ ap (λ s. s.book) c.again-seen.ensures ∙ c.self.invariant.0 ∙ at,
      c.self.invariant.2 ∙ at,
      offer.0,
      rw (ap (λ w. w.key) h, offer.3) (look_moves _ _ no_entry c.self.invariant.3),
    )

pub returns-clause-begins : goal.returns-clause-begins
returns-clause-begins g c =
    let own : List LogEntry = c.self.inside.seen.log in
    let theirs : List LogEntry = c.other.inside.seen.log in
    let all : List LogEntry = c.compare_exchange.new.seen.log in
    let on = c.compare_exchange.ensures.6 in
    let this : IsPrefix own c.learn.new.self.log = subst (λ (l : List LogEntry). IsPrefix l c.learn.new.self.log) (ap (λ s. s.log) c.again-seen.ensures) c.learn.ensures.2 in
    let none : NoneBy (key_after g.J.GalleryId.root own) all = subst (λ (k : ℕ). NoneBy k all) c.self.invariant.4 c.compare_exchange.ensures.7.1 in
    rw (← c.other.view_is) (whole_begins g.J.GalleryId.root own theirs all (prefix_trans own c.learn.new.self.log all this on) (prefix_trans theirs c.learn.new.self.log all c.learn.ensures.3 on) none)
