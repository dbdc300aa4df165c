use Rattle.{std.proofs.Common.rules, desk_store_opening_tidy.proofs.Kept.seal_of, desk_store_pages.proofs.Looking.looks}
use Rattle.desk_store_opening.proofs.marks.check_rows.Goals as goal

pub returns : goal.returns
returns g c = looks c.in_ok-check_numbers.ensures c.refuse_begun.result c.refuse_begun.ensures (λ m _ below ended. record { below = below; ended = ended }) (λ m below kept. search (rules, seal_of))
