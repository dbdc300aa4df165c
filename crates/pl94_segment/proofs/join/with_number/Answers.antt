use Rattle.std.proofs.{Common.{ℕ, ◌∷◌, ◌++◌, [], Option, sym, subst, ◌∙◌, arith, ◌≡◌, ◌<◌, ◌≤◌, List, Some, None, IsSome, is_some, ap}, lemmas.Bool.{false≢true, Decides.nat_tests}}
use Rattle.{std.proofs.lemmas.List.Elements.{All-push, Contains-append_left, Contains-push}, pl94_segment.specs.{Join.IsLeast, declared.record.SegmentNumber.SegmentNumber}}
use Rattle.pl94_segment.specs.{claim.Join.{lacking_part, NoneMissing, IsLeastMissing}, declared.segment.SegRows.SegRows}
use Rattle.pl94_segment.proofs.join.with_number.Goals as goal

-- The least missing record, with one more number looked at.
module _ (first second third : SegRows) where
  lacks_none : (n : ℕ) → lacking_part first second third n ≡ None → IsSome (lacking_part first second third n) → ⊥
  lacks_none n none some = false≢true (sym (ap is_some none) ∙ some)

  -- the least one is no greater
  least_kept : (numbers : List ℕ) (n other : ℕ) (part : SegmentNumber) → other ≤ n → IsLeastMissing first second third numbers other part
      → IsLeastMissing first second third (numbers ++ n ∷ []) other part
  least_kept numbers n other part less least = record {
    taken = Contains-append_left numbers (n ∷ []) other least.taken;
    lacks = least.lacks;
    least = All-push (λ m. IsSome (lacking_part first second third m) → other ≤ m) numbers n least.least (λ some. less);
  }

  -- it is less than the least one
  least_of_less : (numbers : List ℕ) (n other : ℕ) (part least_part : SegmentNumber) → n < other → lacking_part first second third n ≡ Some part
      → IsLeastMissing first second third numbers other least_part → IsLeastMissing first second third (numbers ++ n ∷ []) n part
  least_of_less numbers n other part least_part less lacks least = record {
    taken = Contains-push numbers n;
    lacks = lacks;
    least = All-push (λ m. IsSome (lacking_part first second third m) → n ≤ m) numbers n (λ k d inside some. omega (arith, least.least k d inside some)) (λ some. omega arith);
  }

  -- it is the first one
  least_of_none : (numbers : List ℕ) (n : ℕ) (part : SegmentNumber) → lacking_part first second third n ≡ Some part → NoneMissing first second third numbers
      → IsLeastMissing first second third (numbers ++ n ∷ []) n part
  least_of_none numbers n part lacks none = record {
    taken = Contains-push numbers n;
    lacks = lacks;
    least = All-push (λ m. IsSome (lacking_part first second third m) → n ≤ m) numbers n (λ k d inside some. absurd (lacks_none _ (none k d inside) some)) (λ some. omega arith);
  }

pub returns-then-other-number : goal.returns-then-other-number
returns-then-other-number c = λ numbers.
    subst (λ (o : Option (ℕ × SegmentNumber)). IsLeast c.args.first.now c.args.second.now c.args.third.now numbers o
    → IsLeast c.args.first.now c.args.second.now c.args.third.now (numbers ++ c.args.number ∷ []) o) (sym c.in-Some-least.is)
    (least_kept c.args.first.now c.args.second.now c.args.third.now numbers c.args.number c.in-Some-least.other c.in-Some-least.field-0-1 c.if-other-number.true)

pub returns-else-other-number : goal.returns-else-other-number
returns-else-other-number c = λ numbers least.
    least_of_less c.args.first.now c.args.second.now c.args.third.now numbers c.args.number c.in-Some-least.other c.in-Some.part c.in-Some-least.field-0-1
    (grind (arith, nat_tests, c.if-other-number.false)) (sym c.missing_part.ensures ∙ c.in-Some.is) (rw c.in-Some-least.is at least)

pub returns-in_default-least : goal.returns-in_default-least
returns-in_default-least c = λ numbers least.
    least_of_none c.args.first.now c.args.second.now c.args.third.now numbers c.args.number c.in-Some.part (sym c.missing_part.ensures ∙ c.in-Some.is)
    (rw c.in_default-least.is at least)
