use Rattle.{std.{specs.{FinMap.get as row_at, Prelude.option_map}, proofs.Common.{ℕ, Option, take, ap, ◌∙◌, rules}}, desk_store_pages.specs.Reading.{ReadErrWith, StandsAs}}
use Rattle.{desk_store_rows.specs.claim.Rows.KeyMap, desk_store_pages.proofs.{Outcomes.err_of, Reading.{get_unread_with, value_read, value_unread_with}}}
use Rattle.desk_store_pages.proofs.gets.get_row_with.Goals as goal

pub returns-in_err-found-clause-reading : goal.returns-in_err-found-clause-reading
returns-in_err-found-clause-reading g c =
    let has = λ (m : KeyMap). (value : Option g.row.R.Denot) × StandsAs g.R.RowValue.bytes_of c.args.key.now m value in
    search (
      rules,
      err_of c.from_residual.result c.in_err-found.field-0.0 (ReadErrWith c.args.fingers.now has c.args.txn.now c.args.pages.now c.get_with.new.pages) c.from_residual.ensures.1 (get_unread_with has c.args.fingers.now c.args.txn.now c.args.pages.now c.get_with.new.pages c.in_err-found.field-0.0 c.in_err-found.ensures.reading.err),
    )

pub returns-clause-get : goal.returns-clause-get
returns-clause-get g c = λ honest m holds stand.
    let copied = option_map (λ (l : ℕ). take l c.get_with.new.into) c.in_ok-found.found in
    value_read g.R.RowValue.bytes_of copied (row_at m c.args.key.now) c.value_of.result
    (c.in_ok-found.ensures.get honest m holds stand ∙ ap (row_at m) c.as_slice.ensures.bytes) c.value_of.ensures

pub returns-clause-reading : goal.returns-clause-reading
returns-clause-reading g c =
    let copied = option_map (λ (l : ℕ). take l c.get_with.new.into) c.in_ok-found.found in
    search (
      rules,
      value_unread_with g.R.RowValue.bytes_of copied c.args.key.now c.args.fingers.now c.args.txn.now c.args.pages.now c.get_with.new.pages c.value_of.result (λ honest m holds stand. c.in_ok-found.ensures.get honest m holds stand ∙ ap (row_at m) c.as_slice.ensures.bytes) c.value_of.ensures,
    )
