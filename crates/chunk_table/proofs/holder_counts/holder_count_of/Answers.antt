use Rattle.{std.{specs.{FinMap.get, Prelude.option_map}, proofs.Common.{Option, sym, ap, subst, ◌∙◌}}, desk_store_pages.{specs.Reading.StandsAs, proofs.Looking.fails}}
use Rattle.{desk_store_rows.specs.{Values.holder_count_bytes, declared.value.HolderCount.HolderCount}, chunk_table.proofs.HeldChunks.{holder_count_stands, count_looked}}
use Rattle.chunk_table.proofs.holder_counts.holder_count_of.Goals as goal

pub returns-in_err-found-clause-looks : goal.returns-in_err-found-clause-looks
returns-in_err-found-clause-looks g c = fails c.from_residual.result c.in_err-found.ensures c.from_residual.ensures.1
    (λ m told. subst (λ key. (value : Option HolderCount) × StandsAs holder_count_bytes key m value) (sym c.holder_count.ensures) (holder_count_stands m c.args.number told))

pub returns-clause-looks : goal.returns-clause-looks
returns-clause-looks g c = count_looked c.args.number c.args.txn.now c.args.pages.now c.get_row.new.pages (option_map holder_count_bytes c.in_ok-found.found) c.count_in.result
    c.in_ok-found.ensures.passed (λ honest m holds. c.in_ok-found.ensures.there honest m holds ∙ ap (get m) c.holder_count.ensures) c.count_in.ensures.count
