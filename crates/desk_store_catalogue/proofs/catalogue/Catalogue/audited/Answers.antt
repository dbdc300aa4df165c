use Rattle.{std.proofs.Common.{Ok, Err, refl, sym}, desk_model.specs.declared.reply.Reply.TheVariants.{Audited, Refused}}
use Rattle.desk_store_catalogue.proofs.Audited.{answered, may_be_audited}
use Rattle.desk_store_catalogue.proofs.catalogue.Catalogue.audited.Goals as goal

pub returns-in-Err : goal.returns-in-Err
returns-in-Err c = λ _.
    answered c.args.self.now c.in-Some.geography.now c.args.name.now c.args.k c.args.asked (sym c.in-Some.ensures) (Err c.in-Err.refusal) (Refused _) c.in-Err.ensures refl

pub report-requires : goal.report-requires
report-requires c = may_be_audited c.args.self.now c.in-Some.geography.now c.args.name.now c.args.k c.args.asked (sym c.in-Some.ensures) _ c.in-Ok.ensures

pub returns-in-Ok-report : goal.returns-in-Ok-report
returns-in-Ok-report c = λ _.
    answered c.args.self.now c.in-Some.geography.now c.args.name.now c.args.k c.args.asked (sym c.in-Some.ensures) (Ok _) (Audited c.in-Ok-report.text)
    c.in-Ok.ensures.is (c.in-Ok-report.text, refl, c.in-Ok-report.ensures)
