use Rattle.{std.proofs.{Common.{ℤ, Option, arith, subst, sym, FitsSigned, w16}, lemmas.Int.{ints, to_z-of_z}}, connection_log.specs.Lines.{stamp, year_text}}
use Rattle.{http_desk.specs.streams.http_wire.Adding.Adds, jiff_core.specs.declared.civil.datetime.DateTime.DateTime}
use Rattle.http_desk.proofs.streams.http_wire.AddingLemmas.{adds}
use Rattle.connection_log.proofs.line.LineText.put_moment.Goals as goal

pub returns : goal.returns
returns c =
    let at = c.in-Some.at in
    let fits : FitsSigned w16 at.date.year = omega (arith, ints, at.date.year_in) in
    let year = subst (λ (z : ℤ). Adds 5 (year_text z) c.args.self.now c.put_year.new.self) (to_z-of_z w16 at.date.year fits) c.put_year.ensures in
    subst (λ (o : Option DateTime). Adds 21 (stamp o) c.args.self.now c.put_pair-5.new.self) (sym c.in-Some.is)
    (adds (adds (adds (adds (adds year c.put_pair.ensures) c.put_pair-2.ensures) c.put_pair-3.ensures) c.put_pair-4.ensures) c.put_pair-5.ensures)
