use Rattle.{std.{specs.Option.option_copied, proofs.Common.{sym, ◌∙◌}}, check_command.proofs.Beside.{copied_same, is_long}}
use Rattle.check_command.proofs.audit_plan.report_beside.Goals as goal

pub report_of-requires-clause-ready : goal.report_of-requires-clause-ready
report_of-requires-clause-ready g c κs within =
    let may = c.requires.may in
    record {
      may = record {
        working = may.working;
        some = may.some;
        few = may.few;
        senate_taken = λ some. may.senate_taken (sym (copied_same c.args.senate) ∙ some);
        congress_taken = λ some. may.congress_taken (sym c.in_ok-congress.ensures.same ∙ sym c.districts_of.ensures.same ∙ sym (copied_same c.districts_of.result) ∙ some);
      };
      long = c.requires.long;
      beside_long = record {
        senate = c.requires.senate_long;
        congress = is_long _ (option_copied c.districts_of.result) _ c.districts_of.ensures.value c.in_ok-congress.ensures.beside;
      };
    }
