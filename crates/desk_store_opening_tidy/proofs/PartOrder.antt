-- Parts of revisions stand in the order of their plans and revisions.
use Rattle.std.specs.{BTreeMap.BTreeMap, Cmp.nat_cmp_is, FinMap.{entries, get}, Int.from_be_bytes, Ordering.is_gt, declared.cmp.Ordering.TheVariants.Less}
use Rattle.std.proofs.{Common.{◌≡◌, inl, inr, ◌<◌, ◌≤◌, ◌^◌, ℕ, List, [], ◌∷◌, ◌++◌, drop, true, refl, sym, ap, subst, ◌∙◌, w64, arith}, lemmas.Bool.cases_lt}
use Rattle.{std.proofs.lemmas.Nat.from_be_bytes-to_be_bytes_8, desk_store_opening_tidy.specs.{Rows.NoneFrom, claim.Rows.IsFrom}, desk_store_rows.specs.claim.Rows.KeyMap}
use Rattle.desk_store_opening_tidy.specs.Owners.{AreOwnedBelow, AreOwnedBy, IsOwned, IsOwnedTo, IsPartKey, IsUnderParts, Passes, after_revision}
use Rattle.desk_store_rows.specs.{Keys.{parts_prefix, plan_parts_prefix}, claim.{Keys.{RowKey, key_of, Fits, part, in_one, in_four, in_eight, revision_prefix}, Tidy.AreRows}}
use Rattle.{page_btree.specs.node.{Places.entries_from, claim.{Entries.Entry, Places.key_cmp}}, btree_scan.proofs.Prefixes.{between_under, under_is_from}}
use Rattle.desk_store_opening_tidy.proofs.{After.{fewer_rows, from_tag, prefix_same}, FirstRows.{clash, decided, first_least, first_there, from_trans}}
use Rattle.desk_store_rows.proofs.{Frames.either_way, KeyPrefixes.{starts_itself, starts_same}, Numbers.numbers_decide}
use Rattle.page_btree.proofs.node.Laws.{flip_less}

-- a part of an earlier revision of a plan stands before one of a later
earlier : (plan revision other : ℕ) (w z : List ℕ) → revision < 2 ^ 32 → other < 2 ^ 32 → revision < other → key_cmp (revision_prefix plan revision ++ w) (revision_prefix plan other ++ z) ≡ Less
earlier plan revision other w z fits other_fits less =
    decided Less (λ e. cc) (revision_prefix plan revision) (revision_prefix plan other) w z refl
    ((numbers_decide (plan_parts_prefix plan) revision other).1 fits other_fits ∙ sym (nat_cmp_is revision other Less less))

below_after : (plan revision last index : ℕ) → revision < 2 ^ 32 → last < 2 ^ 32 → revision ≤ last → key_cmp (key_of (part plan revision index)) (after_revision plan last) ≡ Less
below_after plan revision last index fits last_fits within = elim (cases_lt revision last) [
  | inl less ↦ earlier plan revision last (in_one index) (255 ∷ 0 ∷ []) fits last_fits less
  | inr not ↦
      subst (λ (n : ℕ). key_cmp (key_of (part plan revision index)) (after_revision plan n) ≡ Less) (sym (omega arith))
      (prefix_same (revision_prefix plan revision) (in_one index) (255 ∷ 0 ∷ []) ∙ (search (arith, cases_lt, index)))
]

-- parts between a part of a plan and the key after a revision of that plan are of revisions between these
module _ (plan revision index last : ℕ) (fits : Fits (part plan revision index)) (last_fits : last < 2 ^ 32) (other number place : ℕ) (other_fits : Fits (part other number place))
    (from : IsFrom (key_of (part plan revision index)) (key_of (part other number place))) (short : is_gt (key_cmp (after_revision plan last) (key_of (part other number place))) ≡ true) where
  same_plan : plan ≡ other
  same_plan =
      let after = from_trans (plan_parts_prefix plan) (key_of (part plan revision index)) (key_of (part other number place)) (under_is_from (plan_parts_prefix plan) (key_of (part plan revision index)) (starts_itself (plan_parts_prefix plan) (in_four revision ++ in_one index))) from in
      let on = between_under (plan_parts_prefix plan) (key_of (part other number place)) (after_revision plan last) after short (starts_itself (plan_parts_prefix plan) (in_four last ++ 255 ∷ 0 ∷ [])) in
      let same : plan_parts_prefix plan ≡ plan_parts_prefix other = starts_same (plan_parts_prefix plan) (plan_parts_prefix other) (in_four number ++ in_one place) refl on in
      sym (from_be_bytes-to_be_bytes_8 plan fits.0) ∙ ap (λ (l : List ℕ). from_be_bytes w64 (drop 1 l)) same ∙ from_be_bytes-to_be_bytes_8 other other_fits.0

  not_before : revision ≤ number
  not_before = elim (cases_lt number revision) [
    | inl less ↦
        let below : key_cmp (key_of (part plan number place)) (key_of (part plan revision index)) ≡ Less = earlier plan number revision (in_one place) (in_one index) other_fits.1 fits.1 less in
        let here : IsFrom (key_of (part plan revision index)) (key_of (part plan number place)) = subst (λ (n : ℕ). IsFrom (key_of (part plan revision index)) (key_of (part n number place))) (sym same_plan) from in
        absurd (clash (is_gt (key_cmp (key_of (part plan revision index)) (key_of (part plan number place)))) (ap is_gt (flip_less (key_of (part plan number place)) (key_of (part plan revision index)) below)) here)
    | inr not ↦ omega arith
  ]

  not_after : number ≤ last
  not_after = elim (cases_lt last number) [
    | inl less ↦
        let below : key_cmp (after_revision plan last) (key_of (part plan number place)) ≡ Less = earlier plan last number (255 ∷ 0 ∷ []) (in_one place) last_fits other_fits.1 less in
        let here : is_gt (key_cmp (after_revision plan last) (key_of (part plan number place))) ≡ true = subst (λ (n : ℕ). is_gt (key_cmp (after_revision plan last) (key_of (part n number place))) ≡ true) (sym same_plan) short in
        absurd (clash (is_gt (key_cmp (after_revision plan last) (key_of (part plan number place)))) here (ap is_gt below))
    | inr not ↦ omega arith
  ]

  between : (counts : BTreeMap ℕ ℕ) (m : KeyMap) → IsOwnedTo counts m plan revision last → IsOwned counts m other number
  between counts m to = subst (λ (n : ℕ). IsOwned counts m n number) same_plan (to.owned number not_before not_after)

pub starts_part : (plan revision index : ℕ) → IsUnderParts (key_of (part plan revision index))
starts_part plan revision index = starts_itself parts_prefix ((in_eight plan ++ in_four revision) ++ in_one index)

pub starts_after : (plan revision : ℕ) → IsUnderParts (after_revision plan revision)
starts_after plan revision = starts_itself parts_prefix ((in_eight plan ++ in_four revision) ++ 255 ∷ 0 ∷ [])

pub parts_begin : IsUnderParts parts_prefix
parts_begin = refl

-- ---- one goes on after the parts of a plan
module _ (counts : BTreeMap ℕ ℕ) (m : KeyMap) (from : List ℕ) (e : Entry) (more : List Entry) (first : entries_from from (entries m) ≡ e ∷ more) (plan revision : ℕ) (of : IsPartKey plan revision e.0) where
  -- the first part is owned where all are
  pub first_owned : AreOwnedBy counts m → IsOwned counts m plan revision
  first_owned owned = owned plan revision of.index e.1 of.fits (ap (get m) (sym of.is) ∙ first_there m from e more first)

  pub passes_on : (last : ℕ) → last < 2 ^ 32 → IsOwnedTo counts m plan revision last → AreOwnedBelow counts from m → Passes true counts from (after_revision plan last) m
  passes_on last last_fits to before = (
    λ other number place value fits has short. either_way (is_gt (key_cmp from (key_of (part other number place)))) (IsOwned counts m other number)
        (λ above. before other number place value fits has (λ later. clash (is_gt (key_cmp from (key_of (part other number place)))) above later))
        (λ later.
        let least : IsFrom (key_of (part plan revision of.index)) (key_of (part other number place)) = subst (λ (k : List ℕ). IsFrom k (key_of (part other number place))) of.is (first_least m from e more first (key_of (part other number place)) value has later) in
        let below : is_gt (key_cmp (after_revision plan last) (key_of (part other number place))) ≡ true = either_way (is_gt (key_cmp (after_revision plan last) (key_of (part other number place)))) (is_gt (key_cmp (after_revision plan last) (key_of (part other number place))) ≡ true) (λ is. is) (λ is. absurd (short is)) in
        between plan revision of.index last of.fits last_fits other number place fits least below counts m to),
    fewer_rows m from (after_revision plan last) e more first (subst (λ (k : List ℕ). key_cmp k (after_revision plan last) ≡ Less) (sym of.is) (below_after plan revision last of.index of.fits.1 last_fits to.within)),
  )

pub ends_owned : (counts : BTreeMap ℕ ℕ) (m : KeyMap) (from : List ℕ) → NoneFrom from parts_prefix m → AreOwnedBelow counts from m → AreOwnedBy counts m
ends_owned counts m from none before plan revision index value fits has = search (arith, before, none)

pub begins_owned : (counts : BTreeMap ℕ ℕ) (m : KeyMap) → AreOwnedBelow counts parts_prefix m
begins_owned counts m plan revision index value fits has short = absurd (short (from_tag 82 82 ((in_eight plan ++ in_four revision) ++ in_one index) (omega arith)))

-- ---- the first key under parts
part_of : (row : RowKey) → IsUnderParts (key_of row) → ((plan revision index : ℕ) → key_of row ≡ key_of (part plan revision index) → ⊥) → ⊥
part_of (part plan revision index) on other = other plan revision index refl
part_of _ on other = cc

pub no_part : (m : KeyMap) (from : List ℕ) (e : Entry) (more : List Entry) → entries_from from (entries m) ≡ e ∷ more → AreRows m → IsUnderParts e.0 → ((plan revision index : ℕ) → e.0 ≡ key_of (part plan revision index) → ⊥) → ⊥
no_part m from e more first rows on other =
    let (row, fits, is) = rows e.0 e.1 (first_there m from e more first) in
    part_of row (subst IsUnderParts is on) (λ plan revision index same. other plan revision index (is ∙ same))
