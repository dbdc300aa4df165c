use Rattle.{std.proofs.Common.{[], ◌∙◌, arith}, geo_tables.proofs.LoadRows.{batch_next, batch_tag, batch_unseen}}
use Rattle.geo_tables.proofs.laws.batches_are_unseen.Goals as goal

pub returns : goal.returns
returns c m load g done rows = record {
  desk = batch_unseen m load g done rows;
  mark = λ other has. batch_tag m load g done rows 76 (λ same. absurd (omega arith)) _ ∙ has;
  next_is = batch_next m load g done rows;
  unsealed = λ none. batch_tag m load g done rows 83 (λ same. absurd (omega arith)) [] ∙ none;
}
