use Rattle.{std.{specs.{FinMap.get, Prelude.option_map}, proofs.Common.{Option, sym, ap, subst, ◌∙◌}}, chunk_table.specs.Holding.HasHolderCount}
use Rattle.{desk_store_pages.specs.Reading.StandsAs, desk_store_rows.specs.{Values.holder_count_bytes, claim.Rows.KeyMap, declared.value.HolderCount.HolderCount}}
use Rattle.{page_btree.specs.puts.Fingers.Stand, page_store.specs.claim.Transactions.stored, desk_store_pages.proofs.Looking.fails_from}
use Rattle.chunk_table.proofs.HeldChunks.{holder_count_stands, count_looked_with, count_unread_with}
use Rattle.chunk_table.proofs.holder_counts.holder_count_with.Goals as goal

pub returns-in_err-found-clause-looks : goal.returns-in_err-found-clause-looks
returns-in_err-found-clause-looks g c =
    let number = c.args.number in
    let t = c.args.txn.now in
    let a = c.args.pages.now in
    let f = c.args.fingers.now in
    let e = c.in_err-found.field-0.0 in
    let why = c.in_err-found.ensures in
    let has : KeyMap → Type 0 = λ m. (value : Option HolderCount) × StandsAs holder_count_bytes c.holder_count.result m value in
    fails_from (λ m. HasHolderCount number m × Stand t (stored a) f) e c.from_residual.result why.reading.quiet
    (count_unread_with number t a c.get_row_with.new.pages f has (λ m told. subst (λ key. (value : Option HolderCount) × StandsAs holder_count_bytes key m value) (sym c.holder_count.ensures) (holder_count_stands m number told)) e why.reading.err)
    c.from_residual.ensures.1 (λ m is. is)

pub returns-clause-looks : goal.returns-clause-looks
returns-clause-looks g c = count_looked_with c.args.number c.args.txn.now c.args.pages.now c.get_row_with.new.pages c.args.fingers.now (option_map holder_count_bytes c.in_ok-found.found) c.count_in.result
    c.in_ok-found.ensures.reading.passed (λ honest m holds stand. c.in_ok-found.ensures.get honest m holds stand ∙ ap (get m) c.holder_count.ensures) c.count_in.ensures.count
