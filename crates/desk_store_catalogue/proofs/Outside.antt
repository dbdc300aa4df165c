-- Counties outside of the places in which two lists differ.
use Rattle.std.{specs.{Cmp.Lexicographic.pointwise, Prelude.nat_eq}, proofs.lemmas.{Bool.Decides.nat_tests, List.{ext_get_or, get_or-take, get_or-drop, length-take, length-drop}}}
use Rattle.std.proofs.Common.{◌≡◌, ◌⊎◌, ◌<◌, ◌≤◌, ◌+◌, ◌-◌, ℕ, true, false, List, [], ◌∷◌, length, drop, Some, refl, sym, ap, min, ◌∙◌, inl, inr, arith}
use Rattle.{desk_model.specs.declared.ranges.CountyRange.CountyRange, desk_store_catalogue.specs.Cutting.{StaysOutside, is_changed, part}}

-- a list is the same as itself
number_same : (n : ℕ) → nat_eq n n ≡ true
number_same n = grind (arith, nat_tests)

all_same : (xs : List ℕ) → pointwise nat_eq xs xs ≡ true
all_same [] = refl
all_same (x ∷ xs) = rw (number_same x) (all_same xs)

-- a county's part of two lists that differ elsewhere
parts_same : (first end : ℕ) (c : CountyRange) (last new : List ℕ) → c.first + c.count ≤ length last → c.first + c.count ≤ length new → StaysOutside first end last new → (c.first + c.count ≤ first) ⊎ (end ≤ c.first) → part c new ≡ part c last
parts_same first end c last new old_long new_long stays outside =
    let old : length (part c last) ≡ c.count = length-take c.count (drop c.first last) ∙ ap (min c.count) (length-drop c.first last) ∙ few (length last) old_long in
    let now : length (part c new) ≡ c.count = length-take c.count (drop c.first new) ∙ ap (min c.count) (length-drop c.first new) ∙ few (length new) new_long in
    ext_get_or 0 (part c new) (part c last) (now ∙ sym old) (λ i within.
    let less : i < c.count = omega arith in
    get_or-take c.count (drop c.first new) i 0 less ∙ get_or-drop c.first new i 0
    ∙ stays (c.first + i) (elim outside [ inl before ↦ inl (omega arith) | inr after ↦ inr (omega arith) ])
    ∙ sym (get_or-drop c.first last i 0) ∙ sym (get_or-take c.count (drop c.first last) i 0 less))
  where
    few : (n : ℕ) → c.first + c.count ≤ n → min c.count (n - c.first) ≡ c.count
    few n long = omega arith

pub unchanged : (first end : ℕ) (c : CountyRange) (last new : List ℕ) → c.first + c.count ≤ length last → c.first + c.count ≤ length new → StaysOutside first end last new → (c.first + c.count ≤ first) ⊎ (end ≤ c.first) → is_changed (Some last) new c ≡ false
unchanged first end c last new old_long new_long stays outside = search (parts_same first end c last new old_long new_long stays outside, all_same (part c last))
