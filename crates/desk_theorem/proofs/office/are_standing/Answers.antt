use Rattle.{std.proofs.Common.{sym, subst}, desk_theorem.{specs.Runs.IsReached, proofs.Weaving.{AllBegin, runs_of, reached}}, http_desk.specs.seats.desk_gallery.Fronts.Kept}
use Rattle.desk_theorem.proofs.office.are_standing.Goals as goal

pub returns-clause-reached : goal.returns-clause-reached
returns-clause-reached g c =
    let old = c.args.front.now in
    let heard = c.args.visitors.now in
    let same = c.know_all.ensures.same in
    let begin = subst (λ (k : Kept g.row.D.Denot). AllBegin k.shown heard) same c.know_all.ensures.all in
    let runs = runs_of g.J.GalleryId.first old.shown old.all c.is_kept.ensures.accepted c.is_kept.ensures.begins c.is_kept.ensures.few in
    subst (λ (k : Kept g.row.D.Denot). IsReached g.J.GalleryId.first k.shown k.all heard) (sym same) (reached g.J.GalleryId.first old.shown old.all runs heard begin)
