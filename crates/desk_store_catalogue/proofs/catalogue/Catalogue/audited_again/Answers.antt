use Rattle.{std.proofs.Common.{Ok, refl, sym, rules}, desk_model.specs.declared.reply.Reply.TheVariants.Audited, desk_store_catalogue.proofs.Audited.{answered, may_be_audited}}
use Rattle.desk_store_catalogue.proofs.catalogue.Catalogue.audited_again.Goals as goal

pub returns-in-Err : goal.returns-in-Err
returns-in-Err c = search (rules, answered)

pub report_again-requires-clause-auditable : goal.report_again-requires-clause-auditable
report_again-requires-clause-auditable c = may_be_audited c.args.self.now c.in-Some.geography.now.value c.args.name.now c.args.k c.args.asked (sym c.in-Some.ensures) _ c.in-Ok.ensures

pub returns-in-Ok-report_again : goal.returns-in-Ok-report_again
returns-in-Ok-report_again c = record {
  answer = λ _.
      answered c.args.self.now c.in-Some.geography.now.value c.args.name.now c.args.k c.args.asked (sym c.in-Some.ensures) (Ok _) (Audited c.in-Ok-report_again.text)
      c.in-Ok.ensures.is (c.in-Ok-report_again.text, refl, c.in-Ok-report_again.ensures.text);
  last = search rules;
}
