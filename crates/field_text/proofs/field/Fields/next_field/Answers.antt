use Rattle.std.proofs.{Common.{sym, ◌∙◌, eqb, rules}, lemmas.List.Splits.{slice_split_at, slice_split_none}}
use Rattle.field_text.proofs.field.Fields.next_field.Goals as goal

pub returns-in-Some : goal.returns-in-Some
returns-in-Some c = search (rules, c.in-Some.ensures.0, c.in-Some.ensures.1, slice_split_at)

pub returns-in-None : goal.returns-in-None
returns-in-None c = sym (rw c.if-self.false at c.self.view_is) ∙ slice_split_none (λ b. eqb b 124) c.self.inside.rest.now c.in-None.ensures
