use Rattle.{std.proofs.Common.{Option, subst, sym}, desk_store_pages.specs.Reading.StandsAs, desk_store_rows.specs.{claim.Values.counters_bytes, declared.value.Counters.Counters}}
use Rattle.desk_store_pages.proofs.{Looking.fails, Reading.next_stands}
use Rattle.desk_store_pages.proofs.gets.next_numbers.Goals as goal

pub returns-in_err-found-clause-looks : goal.returns-in_err-found-clause-looks
returns-in_err-found-clause-looks g c = fails c.from_residual.result c.in_err-found.ensures c.from_residual.ensures.1
    (λ m next. subst (λ key. (value : Option Counters) × StandsAs counters_bytes key m value) (sym c.counters.ensures) (next_stands m next))
