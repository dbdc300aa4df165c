use Rattle.{std.proofs.{Common.{◌≡◌, ℕ, List, [], length, take, ap, sym, ◌∙◌, arith, rules}, lemmas.List.length-take}, desk_store_pages.proofs.Looking.{fails, looked, not_looked}}
use Rattle.desk_store_rows.proofs.OneGeography.{value_is}
use Rattle.desk_store_opening_tidy.proofs.marks.refuse_unmarked.Goals as goal

pub returns-in_err-length : goal.returns-in_err-length
returns-in_err-length g c = fails c.from_residual.result c.in_err-length.ensures.looks c.from_residual.ensures.1 (λ m is. ([], is))

pub returns-then-length-gt0 : goal.returns-then-length-gt0
returns-then-length-gt0 g c = not_looked c.read_row.ensures.looks.quiet (λ honest m holds is.
    let there = c.in_ok-length.ensures.looks.there honest m holds in
    let none : take c.in_ok-length.length c.read_row.new.into ≡ [] = value_is (take c.in_ok-length.length c.read_row.new.into) [] (sym there ∙ is) in
    let long = length-take c.in_ok-length.length c.read_row.new.into in
    let zero : length (take c.in_ok-length.length c.read_row.new.into) ≡ 0 = ap (λ (l : List ℕ). length l) none in
    let some = c.if-length-gt0.true in
    let few = c.in_ok-length.ensures.short in
    omega arith)

pub returns : goal.returns
returns g c = search (rules, arith, looked, c.in_ok-length.ensures.looks.passed, c.in_ok-length.length, c.if-length-gt0.false, c.in_ok-length.ensures.looks.there, c.read_row.new.into)
