use Rattle.{std.proofs.{Common.rules, lemmas.List.take_rest}, baf_text.proofs.Nearby.same_code}
use Rattle.baf_text.proofs.near.LastCode.code_of.Goals as goal

pub returns-then-begins_with : goal.returns-then-begins_with
returns-then-begins_with c = search (rules, c.begins_with.ensures.same, take_rest, same_code)
