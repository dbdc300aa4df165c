use Rattle.{std.proofs.Common.{sym, ◌∙◌, ap, refl, rules}, desk_gallery.proofs.{Chaining.key_more, Keeping.add_moves, Weighing.lists_more}}
use Rattle.desk_gallery.proofs.book.add_entry.Goals as goal

pub compare_exchange-requires : goal.compare_exchange-requires
compare_exchange-requires c =
    let h = c.requires.head in
    let offer = c.plain-offer.ensures in
    let at = sym (ap (λ w. w.book) h) in (
      ap (λ w. w.tracked) h,
      at,
      c.requires.book ∙ at,
      offer.0,
      rw (ap (λ w. w.key) h, offer.1, offer.3) (add_moves _ _ _ c.requires.right refl),
    )

pub returns-clause-added : goal.returns-clause-added
returns-clause-added c = λ k key. search (rules, key_more, lists_more)
