-- Where a store is too large, no size is reckoned.
use Rattle.std.proofs.Common.{◌≡◌, ℕ, ◌*◌, ◌<◌, ◌≤◌, Bool, true, false, nat_le, ◌&&◌, if◌then◌else◌, Option, Some, None, is_some, inl, inr, refl, ap, arith, mul-le-mul}
use Rattle.{std.proofs.lemmas.Bool.Decides.leb_tells, command_line.specs.{Sizes.{few_enough, revision_pages, journal_for, sectors_for, size_reckoned}, declared.options.Size.Size}}

none_beyond : (b : Bool) (size : Size) → None ≡ (if b && false then Some size else None)
none_beyond true size = refl
none_beyond false size = refl

-- too many sectors
pub too_many : (b c p r : ℕ) → 4294967295 < sectors_for b c p r → None ≡ size_reckoned b c p r
too_many b c p r more = elim (leb_tells (sectors_for b c p r) 4294967295) [
  | inl told ↦ let few = told.1 in absurd (omega (arith, more, few))
  | inr told ↦ rw told.0 (none_beyond (nat_le (journal_for b c) 65536) _)
]

-- what isn't few enough is more
pub more_than : (n : ℕ) → None ≡ few_enough n → 4294967295 < n
more_than n none = elim (leb_tells n 4294967295) [
  | inl told ↦ let was : None ≡ (if nat_le n 4294967295 then Some n else None) = none in let bad : None ≡ Some n = rw told.0 at was in let f : Option ℕ → ℕ = λ o. if is_some o then 1 else 0 in let clash : f None ≡ f (Some n) = ap f bad in absurd (omega (arith, clash))
  | inr told ↦ told.1
]

-- the pages of one plan's revisions are among the sectors
pub one_plan : (b c p r : ℕ) → 1 ≤ p → 4294967295 < r * revision_pages b c → 4294967295 < sectors_for b c p r
one_plan b c p r some more =
    let pages = r * revision_pages b c in
    let times : 1 * pages ≤ p * pages = mul-le-mul some (let same : pages ≤ pages = omega arith in same) in
    omega (arith, more, times)
