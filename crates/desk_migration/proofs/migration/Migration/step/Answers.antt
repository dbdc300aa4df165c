use Rattle.{std.proofs.{Common.{refl, rules}, lemmas.Bool.eqb-true}, desk_migration.proofs.Moved.{exact_rows, goes_on, more_rows, not_stepped, stepped}}
use Rattle.desk_store_pages.proofs.Outcomes.{err_of}
use Rattle.desk_store_opening.proofs.chunk_table.Committing.{both}
use Rattle.desk_migration.proofs.migration.Migration.step.Goals as goal

pub returns-in_err-count : goal.returns-in_err-count
returns-in_err-count g c = record {
  moves = let told = c.in_err-count.ensures in not_stepped c.args.self.now _ c.in_err-count.field-0.0 (goes_on c.args.self.now _ told.steps) told.any_moment told.err told.stays refl;
  few = search rules;
  put = search rules;
  exact = search rules;
  ended = search rules;
  room = search rules;
  working = search rules;
  still = search rules;
  err = search (rules, c.in_err-count.field-0.0, err_of, c.from_residual.ensures.1);
}

pub returns : goal.returns
returns g c =
    let x = c.args.self.now in
    let count = c.in_ok-count.count in
    let told = c.in_ok-count.ensures in
    let ended = eqb-true count 0 in
    record {
      moves = stepped x _ count (goes_on x _ told.steps) told.steps.ok.1 told.any_moment (λ is. ended is) told.held told.steps.ok.0;
      few = search rules;
      put = λ honest d m has. more_rows x _ count (λ is. ended is) told.held honest d m has;
      exact = λ honest d m has. exact_rows count m d c.put_holdings.new.from c.put_holdings.new.pages (told.held honest m d has.holds has.is has.done);
      ended = search rules;
      room = search rules;
      working = search rules;
      still = λ halted. both _ halted told.steps.ok.0;
      err = search rules;
    }
