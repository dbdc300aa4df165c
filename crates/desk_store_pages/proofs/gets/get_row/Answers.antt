use Rattle.{std.{specs.{FinMap.get as row_at, Prelude.option_map}, proofs.Common.{ℕ, Option, take, ap, ◌∙◌}}, desk_store_pages.{specs.Reading.StandsAs, proofs.Reading.get_unread}}
use Rattle.{desk_store_rows.specs.claim.Rows.KeyMap, desk_store_pages.proofs.Looking.{fails_from, reads_as}}
use Rattle.desk_store_pages.proofs.gets.get_row.Goals as goal

pub returns-in_err-found : goal.returns-in_err-found
returns-in_err-found g c =
    let has = λ (m : KeyMap). (value : Option g.row.R.Denot) × StandsAs g.R.RowValue.bytes_of c.args.key.now m value in
    fails_from has c.in_err-found.field-0.0 c.from_residual.result c.get.ensures.reading.quiet (get_unread has c.args.txn.now c.args.pages.now c.get.new.pages c.in_err-found.field-0.0 c.in_err-found.ensures.reading.err) c.from_residual.ensures.1 (λ m is. is)

pub returns : goal.returns
returns g c =
    let copied = option_map (λ (l : ℕ). take l c.get.new.into) c.in_ok-found.found in
    reads_as g.R.RowValue.bytes_of copied c.args.key.now c.value_of.result c.in_ok-found.ensures.reading.passed
    (λ honest m holds. c.in_ok-found.ensures.get honest m holds ∙ ap (row_at m) c.as_slice.ensures.bytes) c.value_of.ensures
