use Rattle.{std.proofs.Common.{◌∙◌, List, sym, subst}, desk_gallery.specs.claim.{After.after, Outcomes.OutcomeMay}, desk_model.specs.declared.command.Command.Command}
use Rattle.http_desk_seats.{specs.{Seated.seated, claim.{Explained.ExplainsCommand, Seated.Seated}}, proofs.Seats.learned}
use mathlib.Core.List.{IsPrefix}
use Rattle.http_desk_seats.proofs.seat.SeatCounter.command.Goals as goal

pub returns : goal.returns
returns g c =
    let first = g.J.GalleryId.first in
    let reply = c.command-reply.result.0 in
    let told = c.command-reply.result.1 in
    let tally = c.command-reply.new.tally in
    let list = c.deref_mut.result.now.shown in
    let does = c.command-reply.ensures in
    let explains : ExplainsCommand first (seated c.self.inside.visitor c.self.inside.tally.accepted.amount c.self.inside.tally.halted.amount) c.args.command reply (seated told tally.accepted.amount tally.halted.amount) = record {
      list = list;
      later = subst (λ f. IsPrefix c.self.inside.visitor f.shown) (sym c.deref_mut.ensures.value) c.front_for-front.ensures;
      outcome = subst (λ (l : List Command). OutcomeMay (after first list) c.args.command reply (after first l)) (sym does.told) does.outcome;
      joined = λ a. does.told ∙ does.joined a;
      same = λ a. does.told ∙ does.same a;
      accepted = does.accepted;
      halted = does.halted;
    } in
    subst (λ (s : Seated). ExplainsCommand first s c.args.command reply (seated c.learn.new.self tally.accepted.amount tally.halted.amount)) c.self.view_is
    (learned first _ _ _ c.args.command reply told c.learn.new.self _ _ explains c.learn.ensures.one c.learn.ensures.that)
