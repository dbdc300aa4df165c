-- The parts of a list in a field.
use Rattle.std.{specs.{List.{position_or_len, flat_map}, Prelude.codes}, proofs.lemmas.{Bool.Decides.nat_tests, Grind.flat_map-append, List.append-nil}}
use Rattle.std.proofs.Common.{◌≡◌, ℕ, ◌+◌, ◌<◌, ◌==◌, false, List, [], ◌∷◌, ◌++◌, length, take, drop, refl, ap, ◌∙◌, arith, length-drop, length-append, rules}
use Rattle.{std.proofs.lemmas.List.Splits.{slice_split_first, length-slice_split}, http_wire.specs.claim.Connection.{parts, ends_in}}

-- the first part ends at the first comma
pub first_part : (value : List ℕ) (end : ℕ) → end ≡ position_or_len (λ b. b == 44) value → end < length value
    → (parts value ≡ take end value ∷ parts (drop (end + 1) value)) × (length (drop (end + 1) value) < length value)
first_part value end at within = search (rules, slice_split_first, length-drop)

-- there is a part
pub some_part : (value : List ℕ) → 0 < length (parts value)
some_part value = omega (arith, length-slice_split (λ b. b == 44) value)

pub two_parts : (value part more : List ℕ) → parts value ≡ part ∷ parts more → false ≡ (length (parts value) == 1)
two_parts value part more e = grind (arith, nat_tests, some_part more, ap length e)

-- the last part is the last one of what follows the first
pub ends_after : (word part : List ℕ) (more : List (List ℕ)) → 0 < length more → ends_in word (part ∷ more) ≡ ends_in word more
ends_after word part [] some = absurd (omega arith)
ends_after word part (next ∷ more) some = refl

pub ends_append : (word : List ℕ) (before more : List (List ℕ)) → 0 < length more → ends_in word (before ++ more) ≡ ends_in word more
ends_append word [] more some = refl
ends_append word (part ∷ before) more some = ends_after word part (before ++ more) (omega (arith, length-append before more)) ∙ ends_append word before more some

-- the last part of several values is that of the last value
pub ends_last : (before : List (List ℕ)) (value : List ℕ) → ends_in (codes "chunked") (flat_map parts (before ++ value ∷ [])) ≡ ends_in (codes "chunked") (parts value)
ends_last before value = search (rules, flat_map-append, append-nil, ends_append, some_part)
