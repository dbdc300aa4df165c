use Rattle.{std.proofs.Common.{◌∙◌, List, sym, subst, take, take_all, arith}, desk_model.specs.declared.command.Command.Command, http_desk.specs.seats.desk_gallery.Fronts.Kept}
use Rattle.desk_theorem.proofs.Weaving.{AllBegin, one_more_begins}
use Rattle.desk_theorem.proofs.office.know_all.Goals as goal

pub loop-visitor-preserved : goal.loop-visitor-preserved
loop-visitor-preserved g c =
    let so_far = subst (λ (k : Kept g.row.D.Denot). AllBegin k.shown (take c.loop-visitor.visitor-index c.args.visitors.now)) (sym c.knows.ensures.same) c.loop-visitor.invariant.0 in (
      one_more_begins c.knows.new.self.shown c.args.visitors.now c.loop-visitor.visitor-index c.visitor-item.result (omega arith) so_far c.visitor-item.is c.knows.ensures.begins,
      c.knows.ensures.same ∙ c.loop-visitor.invariant.1,
    )

pub returns-clause-all : goal.returns-clause-all
returns-clause-all g c =
    subst (λ (heard : List (List Command)). AllBegin c.loop-visitor.front.shown heard) (take_all c.loop-visitor.visitor-index c.args.visitors.now (omega arith)) c.loop-visitor.invariant.0
