use Rattle.{std.proofs.Common.{sym, ◌∙◌, rules}, command_line.specs.Options.format_read}
use Rattle.command_line.proofs.words.format_job.Goals as goal

pub returns : goal.returns
returns c = record {
  valid = search rules;
  paths = (
    sym c.in_ok-store.ensures,
    sym (c.in_ok-size.ensures.value
        ∙ (λ i. format_read (c.word_of.ensures i) (c.word_of-2.ensures i) (c.word_of-3.ensures i) (c.word_of-4.ensures i) (c.word_of-5.ensures i) (c.word_of-6.ensures i))),
  );
}
