use Rattle.{std.proofs.Common.{ℕ, List, inl, inr, rules, subst, sym}, inspect_command.specs.SoundTexts.IsLongLine}
use Rattle.inspect_command.proofs.refusal.tell_refusal.Goals as goal

pub returns-in-Some : goal.returns-in-Some
returns-in-Some g c =
    let refusal = c.args.refusal.now in
    let line = subst (λ (l : List ℕ). IsLongLine refusal.page refusal.row l) (sym c.as_slice.ensures.value) c.in-Some.ensures.line in
    (search rules, (c.as_slice.result.now, inr (c.in-Some.ensures.told, line), search rules))

pub returns-in-None : goal.returns-in-None
returns-in-None g c = (search rules, (c.store_line.result.now, inl c.store_line.ensures, search rules))
