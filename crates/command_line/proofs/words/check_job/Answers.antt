use Rattle.{std.proofs.Common.{◌≡◌, Some, is_some, sym, ap, ◌∙◌, rules}, clap.specs.Matches.found_of, command_line.specs.{Jobs.form_asked, Options.{form_read, workers_read}}}
use Rattle.command_line.proofs.Forms.{is_copied}
use Rattle.command_line.proofs.words.check_job.Goals as goal

pub returns-in-Counts : goal.returns-in-Counts
returns-in-Counts c = record {
  valid = search rules;
  paths = let gal = c.is_some.ensures ∙ sym (is_copied c.get_str-gal.result) ∙ ap is_some c.get_str-gal.ensures in
      let plan = c.is_some-2.ensures ∙ sym (is_copied c.get_str-plan.result) ∙ ap is_some c.get_str-plan.ensures in
      let senate = sym (is_copied c.get_str.result) ∙ ap is_some c.get_str.ensures in
      let congress = sym (is_copied c.get_str-2.result) ∙ ap is_some c.get_str-2.ensures in
      let asked : Some c.in_ok-form.form ≡ form_asked (found_of c.args.matches.now) = c.in_ok-form.ensures.value
      ∙ (λ i. form_read (gal i) (plan i) (c.word_of-4.ensures i) (c.word_of-5.ensures i) (senate i) (congress i) (record { senate = c.word_of.ensures i; congress = c.word_of-2.ensures i })) in (
        c.in_ok-census.ensures,
        sym asked ∙ ap Some c.in-Counts.is,
        sym (c.in_ok-workers.ensures.value ∙ (λ i. workers_read (c.word_of-3.ensures i))),
      );
}

pub returns-in_ok-plan-in-Audit : goal.returns-in_ok-plan-in-Audit
returns-in_ok-plan-in-Audit c = record {
  valid = search rules;
  paths = let gal = c.is_some.ensures ∙ sym (is_copied c.get_str-gal.result) ∙ ap is_some c.get_str-gal.ensures in
      let plan = c.is_some-2.ensures ∙ sym (is_copied c.get_str-plan.result) ∙ ap is_some c.get_str-plan.ensures in
      let senate = sym (is_copied c.get_str.result) ∙ ap is_some c.get_str.ensures in
      let congress = sym (is_copied c.get_str-2.result) ∙ ap is_some c.get_str-2.ensures in
      let asked : Some c.in_ok-form.form ≡ form_asked (found_of c.args.matches.now) = c.in_ok-form.ensures.value
      ∙ (λ i. form_read (gal i) (plan i) (c.word_of-4.ensures i) (c.word_of-5.ensures i) (senate i) (congress i) (record { senate = c.word_of.ensures i; congress = c.word_of-2.ensures i })) in (
        c.in_ok-census.ensures,
        search (rules),
        search (rules),
        sym c.get_str.ensures,
        sym c.get_str-2.ensures,
        sym asked ∙ ap Some c.in-Audit.is,
        sym (c.in_ok-workers.ensures.value ∙ (λ i. workers_read (c.word_of-3.ensures i))),
      );
}
