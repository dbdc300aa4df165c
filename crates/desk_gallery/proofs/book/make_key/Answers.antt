use Rattle.{std.proofs.Common.{sym, ◌∙◌, ap}, desk_gallery.proofs.Keeping.{make_moves, no_entry}}
use Rattle.desk_gallery.proofs.book.make_key.Goals as goal

pub compare_exchange-requires : goal.compare_exchange-requires
compare_exchange-requires c =
    let h = c.requires in
    let offer = c.plain-offer.ensures in
    let pen = c.no_pen-pen.ensures in
    let same = c.again-seen.ensures in
    let book = ap (λ s. s.book) same ∙ sym (ap (λ w. w.book) h) in (
      ap (λ w. w.tracked) h,
      book,
      pen.0 ∙ book,
      offer.0,
      rw (ap (λ w. w.key) h, pen.1, offer.3) (make_moves _ no_entry),
    )
