-- The parts of revisions are those of plans whose revisions are counted, or of plans that were taken away.
use Rattle.{std.specs.{BTreeMap.{BTreeMap, get as count_at}, Ordering.nat_cmp}, desk_model.specs.claim.Desk.Desk, desk_store_pages.specs.claim.Desks.IsMapOf}
use Rattle.{std.proofs.Common.{◌≡◌, ◌⊎◌, inl, inr, ◌<◌, ◌≤◌, ◌^◌, ℕ, List, [], Bool, Option, Some, None, refl, sym, subst, ◌∙◌}, desk_store_rows.specs.claim.Rows.{KeyMap, Has}}
use Rattle.{desk_store_opening.specs.Opening.{AreCounts, ArePartsOwned, IsRevisionCounted}, desk_store_opening_tidy.specs.Owners.{AreOwnedBy, HasOwners, IsOwnedAs}}
use Rattle.{desk_store_rows.specs.claim.Keys.{Fits, part, retired}, desk_store_opening.proofs.PlanNumbers.some_or_none}

module _ (m : KeyMap) (counts : BTreeMap ℕ ℕ) (are : AreCounts m counts) where
  counted_or_gone : (plan revision : ℕ) (o : Option ℕ) → count_at nat_cmp counts plan ≡ o → IsOwnedAs m plan revision o → IsRevisionCounted m plan revision ⊎ Has m (retired plan) []
  counted_or_gone plan revision None is gone = inr gone
  counted_or_gone plan revision (Some count) is within = inl (record { count = count; has = are.are plan count is; some = within.0; few = within.1 })

  pub parts_owned : AreOwnedBy counts m → ArePartsOwned m
  parts_owned owned plan revision index value fits has = counted_or_gone plan revision (count_at nat_cmp counts plan) refl (owned plan revision index value fits has)

  -- so it is of a desk's
  module _ {new : Bool} (d : Desk) (is : IsMapOf new m d) where
    kept_part : (plan revision index : ℕ) (value : List ℕ) → Fits (part plan revision index) → Has m (part plan revision index) value → (o : Option ℕ) → count_at nat_cmp counts plan ≡ o → IsOwnedAs m plan revision o
    kept_part plan revision index value fits has None none = elim (is.tidy.owned.parts plan revision index value fits has) [
      | inl (name, numbered) ↦ (let count = are.all name plan numbered in absurd (some_or_none count.0 (sym count.1 ∙ none)))
      | inr gone ↦ gone
    ]
    kept_part plan revision index value fits has (Some count) there =
        let of = are.are plan count there in
        let within = is.tidy.counted.counted of.name of.plan (subst (λ (n : ℕ). n < 2 ^ 64) (sym of.is) of.fits) (subst (λ (n : ℕ). n < 2 ^ 32) (sym of.counts) of.count_fits) of.row
        revision index value (subst (λ (n : ℕ). Fits (part n revision index)) (sym of.is) fits) (subst (λ (n : ℕ). Has m (part n revision index) value) (sym of.is) has) in
        (within.0, subst (λ (n : ℕ). revision ≤ n) of.counts within.1)

    pub has_owners : HasOwners counts m
    has_owners = search kept_part
