-- Plans of which one may wait to be put into the tree, as a map.
use Rattle.std.specs.{Cmp.Lexicographic.nat_list_cmp_total, FinMap.{get, len, get-empty, get-insert, len-insert, len-remove, empty_of_len}, Option.{option_copied, is_some}}
use Rattle.std.{specs.{Ordering.is_eq, Result.is_ok, declared.{alloc.Global.Global, sync.Arc.Arc}}, proofs.lemmas.{Bool.cases_lt, Map.Lookups.exact_bytes}}
use Rattle.std.proofs.Common.{◌≡◌, ℕ, ◌+◌, ◌-◌, ◌<◌, true, false, cond, List, Option, Some, None, IsSome, IfSome, IfNone, Bor, Result, Ok, Err, OnOk, inl, inr, arith, refl, subst, ap, sym, ◌∙◌}
use Rattle.{desk_model.specs.claim.Desk.{Plan, name_cmp}, desk_store_plans.specs.{Held.{laid, AreHeld, IsSettled}, Rows.{Row, IsRemoved, IsFound}}}
use Rattle.desk_store_plans.proofs.AsMap.{AreMap, IsLookedUp, as_map, equal, map_put, is_less, looked_up}
use Rattle.std.specs.FinMap as map_of

pub settled_map : (pending : Option (Arc Row Global)) {rows new : List Row} {self : map_of.FinMap name_cmp Plan} {count : ℕ} → AreHeld pending rows count → laid pending rows ≡ self → IsSettled pending rows new → AreMap new self
settled_map None were view is = record { rising = rw is were.rising; map_is = ap as_map is ∙ view }
settled_map (Some e) {new = new} were view made = subst (AreMap new) view (map_put (record { rising = were.rising; map_is = refl }) made)

-- what holds at Ok
pub on_ok : {T E : Type 0} (r : Result T E) (P : Type 0) → true ≡ is_ok r → OnOk r P → P
on_ok (Ok t) P is p = p
on_ok (Err e) P is p = absurd (cc)

module _ {new : List Row} {self : map_of.FinMap name_cmp Plan} {count : ℕ} (are : AreMap new self) (number : count ≡ len self) where
  pub laid_over : (row : Arc Row Global) → laid (Some row) new ≡ map_of.insert self row.value.0 row.value.1
  laid_over row = ap (λ m. map_of.insert m row.value.0 row.value.1) are.map_is

  -- how many plans there are with one more, and with one over another
  pub held_more : (row : Arc Row Global) → get self row.value.0 ≡ None → AreHeld (Some row) new (count + 1)
  held_more row missing = record {
    rising = are.rising;
    count = ap (λ n. n + 1) number ∙ sym (ap len (laid_over row) ∙ len-insert nat_list_cmp_total self row.value.0 row.value.1 ∙ ap (λ o. cond (is_some o) (len self) (len self + 1)) missing);
  }

  pub held_over : (row : Arc Row Global) → IsSome (get self row.value.0) → AreHeld (Some row) new count
  held_over row some = record {
    rising = are.rising;
    count = number ∙ sym (ap len (laid_over row) ∙ len-insert nat_list_cmp_total self row.value.0 row.value.1 ∙ ap (λ b. cond b (len self) (len self + 1)) some);
  }

  -- where nothing is pending any more
  pub held_whole : AreHeld None new count
  held_whole = record { rising = are.rising; count = number ∙ sym (ap len are.map_is) }

-- a plan less
pub record IsHeldLess (new : List Row) (self : map_of.FinMap name_cmp Plan) (name : List ℕ) (count : ℕ) : Type 0 where
  pub map_is : as_map new ≡ map_of.remove self name
  pub held : AreHeld None new (count - 1)
  pub some : 0 < count

has_some : (self : map_of.FinMap name_cmp Plan) (name : List ℕ) → IsSome (get self name) → 0 < len self
has_some self name some = elim (cases_lt 0 (len self)) [
  | inl more ↦ more
  | inr none ↦ let clash : false ≡ true = rw (empty_of_len self (omega arith), get-empty name_cmp name) at some in absurd (cc)
]

pub held_less : {rows new : List Row} {self : map_of.FinMap name_cmp Plan} {name : List ℕ} {count : ℕ} → AreMap rows self → count ≡ len self → IsSome (get self name) → IsRemoved name rows new → IsHeldLess new self name count
held_less {self = self} {name = name} are number some gone =
    let less = is_less are some gone in
    record {
      map_is = less.map_is;
      held = held_whole less (ap (λ n. n - 1) number ∙ sym (len-remove nat_list_cmp_total self name ∙ ap (λ b. cond b (len self - 1) (len self)) some));
      some = rw number (has_some self name some);
    }

pub named_pending : (name : List ℕ) (e : Row) → is_eq (name_cmp name e.0) ≡ true → e.0 ≡ name
named_pending name e same = sym (exact_bytes name e.0 (equal (name_cmp name e.0) same))

-- what a look-up answers: where no plan is pending, where the name is the pending plan's, and where it is another
module _ {pending : Option (Arc Row Global)} {rows : List Row} {self : map_of.FinMap name_cmp Plan} {count : ℕ} (were : AreHeld pending rows count) (view : laid pending rows ≡ self) where
  pub none_pending : pending ≡ None → AreMap rows self
  none_pending none = record { rising = were.rising; map_is = ap (λ p. laid p rows) (sym none) ∙ view }

  module _ (row : Arc Row Global) (name : List ℕ) (is : pending ≡ Some row) where
    get_laid : get self name ≡ cond (is_eq (name_cmp name row.value.0)) (Some row.value.1) (get (as_map rows) name)
    get_laid = ap (λ m. get m name) (sym (ap (λ p. laid p rows) (sym is) ∙ view)) ∙ get-insert nat_list_cmp_total (as_map rows) row.value.0 row.value.1 name

    pub found_pending : is_eq (name_cmp name row.value.0) ≡ true → get self name ≡ Some row.value.1
    found_pending same = get_laid ∙ ap (λ b. cond b (Some row.value.1) (get (as_map rows) name)) same

    pub looked_after : is_eq (name_cmp name row.value.0) ≡ false → (r : Option (Bor Row)) → IsFound name rows (option_copied r) → IsLookedUp self name r
    looked_after other r found =
        let after : get (as_map rows) name ≡ get self name = sym (get_laid ∙ ap (λ b. cond b (Some row.value.1) (get (as_map rows) name)) other) in
        let is = looked_up (record { rising = were.rising; map_is = refl }) r found in
        record { found = subst (λ o. IfSome r (λ e. o ≡ Some e.now.1)) after is.found; named = is.named; missing = subst (λ o. IfNone r (o ≡ None)) after is.missing }
