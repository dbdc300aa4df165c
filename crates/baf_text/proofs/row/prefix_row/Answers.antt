use Rattle.{std.proofs.{Common.{ℕ, List, subst}, lemmas.List.take_rest}, baf_text.{specs.Prefix.HasCode, proofs.Nearby.prefix_of}}
use Rattle.baf_text.proofs.row.prefix_row.Goals as goal

pub returns-in-Some-code_of : goal.returns-in-Some-code_of
returns-in-Some-code_of c =
    prefix_of c.args.text.now c.in-Some-code_of.rest.now c.in-Some.block c.in-Some-code_of.number c.in-Some.ensures
    (subst (λ (text : List ℕ). HasCode text c.in-Some-code_of.number c.in-Some-code_of.rest.now) (take_rest c.args.text.now 16) c.in-Some-code_of.ensures)
