use Rattle.std.proofs.{Common.rules, lemmas.List.take_all}
use Rattle.desk_store_catalogue.proofs.made.is_same.Goals as goal

pub returns-then-len : goal.returns-then-len
returns-then-len c = search (rules, take_all)
