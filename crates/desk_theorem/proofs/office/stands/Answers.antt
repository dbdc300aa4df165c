use Rattle.desk_theorem.proofs.Weaving.{lawful_at}
use Rattle.desk_theorem.proofs.office.stands.Goals as goal

pub returns-clause-lawful : goal.returns-clause-lawful
returns-clause-lawful g c =
    let new = c.are_standing.new.front in
    lawful_at c.core_law.ensures g.J.GalleryId.first new.shown new.all c.args.visitors.now c.are_standing.ensures.reached
