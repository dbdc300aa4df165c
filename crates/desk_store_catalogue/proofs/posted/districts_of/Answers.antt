use Rattle.{std.proofs.{Common.rules, lemmas.List.length-map}, desk_store_catalogue.proofs.{Overlays.listed_length, Results.match_of, Whole.read_whole}}
use Rattle.desk_store_catalogue.proofs.posted.districts_of.Goals as goal

pub returns-in_err-listed : goal.returns-in_err-listed
returns-in_err-listed c = search (rules, match_of)

pub returns-in-Ok : goal.returns-in-Ok
returns-in-Ok c = search (rules, read_whole, length-map, listed_length)
