use Rattle.std.{specs.{List.slice_get, Option.option_copied}, proofs.lemmas.{List.{drop_all, drop_more}, Option.{slice_get_past, slice_get-get_or}}}
use Rattle.std.proofs.Common.{◌≤◌, length, refl, sym, ◌∙◌, arith, rules, ◌≡◌, ◌∷◌, [], ◌+◌, ◌<◌, ℕ, List, Option, Some, None, drop, get_or, ap, length-drop, MatchOption, Bor}
use Rattle.field_text.proofs.field.Fields.nth_field.Goals as goal

-- One element after others that are passed over.
short : {X : Type 0} (xs : List X) (i n : ℕ) → drop i xs ≡ [] → i ≤ n → length xs ≤ n
short xs i n e le = omega (arith, length-drop i xs, ap length e)

-- what a step gives, and leaves
last : (r : Option (Bor (List ℕ))) (xs old new : List (List ℕ)) (i n : ℕ) → MatchOption r ((old ≡ []) × (new ≡ [])) (λ f. old ≡ f.now ∷ new) → old ≡ drop i xs → i ≡ n
    → (option_copied r ≡ slice_get xs n) × (new ≡ drop (n + 1) xs)
last None xs old new i n gave at same =
    let past : length xs ≤ n = short xs i n (sym at ∙ gave.0) (omega arith) in
    (sym (slice_get_past xs n past), gave.1 ∙ sym (drop_all (n + 1) xs (omega arith)))
last (Some f) xs old new i n gave at same =
    let cut : drop n xs ≡ f.now ∷ new = ap (λ (k : ℕ). drop k xs) (sym same) ∙ sym at ∙ gave in
    let inside : n < length xs = omega (arith, length-drop n xs, ap length cut) in
    let next = drop_more xs n f.now inside in
    let here : f.now ≡ get_or xs n f.now = cc in
    (ap Some here ∙ sym (slice_get-get_or xs n f.now inside), (cc))

pub returns-in_err-next_field-clause-field : goal.returns-in_err-next_field-clause-field
returns-in_err-next_field-clause-field c =
    let past : length c.args.self.now ≤ c.args.skipped = short _ c.loop.counter _ (sym c.loop.invariant ∙ c.in_err-next_field.ensures.0) (omega arith) in
    search (rules, past, c.from_residual.ensures, slice_get_past)

pub returns-in_err-next_field-clause-rest : goal.returns-in_err-next_field-clause-rest
returns-in_err-next_field-clause-rest c =
    let past : length c.args.self.now ≤ c.args.skipped = short _ c.loop.counter _ (sym c.loop.invariant ∙ c.in_err-next_field.ensures.0) (omega arith) in
    search (rules, past, c.in_err-next_field.ensures.1, drop_all)

pub loop-preserved : goal.loop-preserved
loop-preserved c = (last c.next_field.result c.args.self.now _ _ c.loop.counter c.loop.counter c.next_field.ensures c.loop.invariant refl).1

pub returns-clause-field : goal.returns-clause-field
returns-clause-field c = (last c.next_field-2.result c.args.self.now _ _ c.loop.counter c.args.skipped c.next_field-2.ensures c.loop.invariant (omega arith)).0

pub returns-clause-rest : goal.returns-clause-rest
returns-clause-rest c = (last c.next_field-2.result c.args.self.now _ _ c.loop.counter c.args.skipped c.next_field-2.ensures c.loop.invariant (omega arith)).1
