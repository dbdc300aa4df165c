-- The pieces that are left when one is taken, and the breaks of all parts.
use Rattle.std.{specs.{Prelude.Vec, declared.alloc.Global.Global}, proofs.{Math.Nat.{mul-le-mul_left, div-add-mod, mod-lt}, lemmas.Bool.{cases_lt, cases_eq}}}
use Rattle.std.proofs.Common.{rules, ◌≡◌, ℕ, ◌+◌, ◌-◌, ◌*◌, ◌/◌, ◌%◌, ◌<◌, ◌≤◌, min, List, ◌++◌, length, get_or, set, remove, sym, ap, ◌∙◌, subst, inl, inr, arith}
use Rattle.std.proofs.lemmas.List.{get_or_default, length-set, get_or-set_same, get_or-set_other, Edits.{get_or-remove_below, length-remove}}
use Rattle.{audit_contiguity.specs.{Laws.BreaksFollow, claim.Breaks.AreBreaks, declared.breaks.Break.Break}, audit_report.specs.Work.{Audit, IsPieceOf, IsFound, breaks_in}}
use Rattle.audit_report.specs.{Share.{AreNumberedBelow, IsHeld, AreShares, IsTaken, IsThere}, declared.{pieces.{People.People, Unnested.Unnested}, work.Found.Found}}
use Rattle.audit_splits_nesting.specs.declared.splits.DividedGroups.{DividedGroups}
use Rattle.audit_report.specs.declared.work.Found.TheVariants as found

-- of two pieces of one worker the one before has the lower place
place_before : (workers p q : ℕ) → 0 < workers → p % workers ≡ q % workers → p < q → p / workers < q / workers
place_before workers p q some same less = search (rules, div-add-mod, mul-le-mul_left, cases_lt)

held_still : (a : Audit) (piece place out : ℕ) (old new : List Found) → place < out → out < length old → new ≡ remove old out → IsHeld a piece place old → IsHeld a piece place new
held_still a piece place out old new before within is was = search (rules, length-remove, get_or-remove_below)

-- where the shares hold what the pieces up to one found, and this is taken
module _ {a : Audit} {workers piece : ℕ} {old new : List (Vec Found Global)} {it : Found} (taken : IsTaken piece workers old new it) (held : AreShares a (piece + 1) workers old) where
  pub taken_is : IsFound a piece it
  taken_is = search (arith, taken.was taken.share it)

  pub taken_left : 0 < workers → AreShares a piece workers new
  taken_left some = record {
    wide = ap length taken.is ∙ length-set old (piece % workers) taken.share ∙ held.wide;
    each = λ p s less. elim (cases_eq (p % workers) (piece % workers)) [
      | inl same ↦
          rw (taken.is, same, get_or-set_same old (piece % workers) taken.share s (omega (arith, held.wide, mod-lt piece some)))
          (held_still a p (p / workers) (piece / workers) (get_or old (piece % workers) s).items taken.share.items (place_before workers p piece some same less)
          (held.each piece s (omega arith)).within (taken.left s) (subst (λ w. IsHeld a p (p / workers) (get_or old w s).items) same (held.each p s (omega arith))))
      | inr other ↦ rw (taken.is, get_or-set_other old (piece % workers) (p % workers) taken.share s other) (held.each p s (omega arith))
    ];
  }

pub shares_below : {a : Audit} {pieces workers : ℕ} {shares : List (Vec Found Global)} (below : ℕ) → below ≤ pieces → AreShares a pieces workers shares → AreShares a below workers shares
shares_below below less held = record { wide = held.wide; each = λ p s l. held.each p s (omega arith) }

pub there_is : {a : Audit} {workers piece : ℕ} {shares : List (Vec Found Global)} → 0 < workers → AreShares a (piece + 1) workers shares → IsThere piece workers shares
there_is {piece = piece} some held = record { some = some; wide = held.wide; within = λ s. (held.each piece s (omega arith)).within }

pub taken_by : (piece workers : ℕ) (old : List (Vec Found Global)) (share left : Vec Found Global) (found : Found) → IsThere piece workers old
    → share ≡ get_or old (piece % workers) share → found ≡ get_or share.items (piece / workers) found → left.items ≡ remove share.items (piece / workers)
    → IsTaken piece workers old (set old (piece % workers) left) found
taken_by piece workers old share left found there is found_is left_is =
    let less : piece % workers < length old = omega (arith, there.wide, mod-lt piece there.some) in
    let at : (s : Vec Found Global) → get_or old (piece % workers) s ≡ share = λ s. get_or_default old (piece % workers) s share less ∙ sym is in
    let within : piece / workers < length share.items = subst (λ (v : Vec Found Global). piece / workers < length v.items) (sym is) (there.within share) in
    record {
      share = left;
      was = λ s d. rw (at s) (get_or_default share.items (piece / workers) d found within ∙ sym found_is);
      left = λ s. rw (at s) left_is;
      is = λ i. set old (piece % workers) left;
    }

pub found_at : (a : Audit) (pieces workers piece : ℕ) (shares : List (Vec Found Global)) (share : Vec Found Global) (x : Found) → piece < pieces → AreShares a pieces workers shares
    → share ≡ get_or shares (piece % workers) share → x ≡ get_or share.items (piece / workers) x → IsFound a piece x
found_at a pieces workers piece shares share x less held share_is x_is = search rules

pub nesting_there : (a : Audit) (x : Found) → IsFound a 2 x → ((y : Unnested) → x ≡ found.Nesting y → ⊥) → ⊥
nesting_there a (found.Nesting x) is not_it = not_it x (λ i. found.Nesting x)
nesting_there a _ is not_it = omega (arith, is.0)

pub splits_there : (a : Audit) (x : Found) → IsFound a 1 x → ((y : DividedGroups) → x ≡ found.Splits y → ⊥) → ⊥
splits_there a (found.Splits x) is not_it = not_it x (λ i. found.Splits x)
splits_there a _ is not_it = omega (arith, is.0)

pub people_there : (a : Audit) (x : Found) → IsFound a 0 x → ((y : People) → x ≡ found.People y → ⊥) → ⊥
people_there a (found.People x) is not_it = not_it x (λ i. found.People x)
people_there a _ is not_it = omega (arith, is.0)

breaks_found : (a : Audit) (piece : ℕ) (x : Found) → 3 ≤ piece → IsFound a piece x
    → AreBreaks a.geography a.plan (16 * (piece - 3) + 1) (min (16 * (piece - 3) + 16) a.count) (breaks_in x)
breaks_found a piece (found.Breaks x) from is = is.1
breaks_found a piece _ from is = absurd (omega (arith, is.0))

pub breaks_more : BreaksFollow → (a : Audit) (piece : ℕ) (so_far : List Break) (x : Found) → 3 ≤ piece → IsPieceOf a.count piece
    → AreBreaks a.geography a.plan 1 (min (16 * (piece - 3)) a.count) so_far → IsFound a piece x
    → AreBreaks a.geography a.plan 1 (min (16 * (piece + 1 - 3)) a.count) (so_far ++ breaks_in x)
breaks_more follow a piece so_far x from of was is =
    let low : min (16 * (piece - 3)) a.count ≡ 16 * (piece - 3) = omega arith in
    let step : 16 * (piece - 3) + 16 ≡ 16 * (piece + 1 - 3) = omega arith in
    let before : AreBreaks a.geography a.plan 1 (16 * (piece - 3)) so_far = subst (λ m. AreBreaks a.geography a.plan 1 m so_far) low was in
    let next : AreBreaks a.geography a.plan (16 * (piece - 3) + 1) (min (16 * (piece + 1 - 3)) a.count) (breaks_in x) = search (rules, breaks_found) in
    follow a.geography a.plan 1 (16 * (piece - 3)) (min (16 * (piece + 1 - 3)) a.count) so_far (breaks_in x) (omega arith) (omega arith) before next

pub breaks_all : (a : Audit) (pieces piece : ℕ) (breaks : List Break) → AreNumberedBelow a.count pieces → pieces ≤ piece
    → AreBreaks a.geography a.plan 1 (min (16 * (piece - 3)) a.count) breaks → AreBreaks a.geography a.plan 1 a.count breaks
breaks_all a pieces piece breaks numbered past are = search (arith, cases_lt (16 * (piece - 3)) a.count)
