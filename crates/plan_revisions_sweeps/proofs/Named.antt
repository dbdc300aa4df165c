-- What parts of revisions name.
use Rattle.{std.specs.{FinMap.{entries, get}, List.AllByRecursion, Prelude.{All, Contains, get_or}}, btree_scan.specs.{Prefixes.under, declared.rows.Row.Row}}
use Rattle.{std.proofs.Common.{◌≡◌, ◌+◌, ℕ, List, [], ◌∷◌, Some, None, refl, sym, ap, subst, ◌∙◌, inl, inr}, desk_store_rows.specs.{RowKeys.IsKey, claim.Rows.KeyMap}}
use Rattle.{std.proofs.lemmas.List.Elements.{All-contains, All-nil, All-push, All-set, Contains-get_or}, desk_store_rows.specs.claim.Lists.{AreChunks, chunks_bytes}}
use Rattle.{desk_store_rows.{specs.claim.Keys.{key_of, Fits, holding, holder_count, part, in_eight}, proofs.ListLaws.chunks_differ}, page_btree.specs.node.claim.Entries.Entry}
use Rattle.plan_revisions_sweeps.specs.{Checks.{IsEntryNamed, IsHoldingRow, IsNewTidy, IsPartRow, IsPlansList, IsWithOne}, claim.Checks.{AreNamesHeld, IsHeldOrGone}}
use Rattle.{btree_scan.proofs.RowsFound.{IsNextUnder, all_found, found_among}, desk_store_rows.proofs.{HolderCounts.held_counted_by_holders, OneGeography.no_value}}
use Rattle.{desk_store_rows.proofs.RowLaws.keys_differ, plan_revisions_sweeps.proofs.Keys.{row_under, any_holding_is, any_part_is}}

-- ---- rows of a tidy map
-- a holding
pub holding_next : (m : KeyMap) (taken : List Entry) (row : Row) → IsNewTidy m → IsNextUnder (72 ∷ []) m taken (row.key, row.value) → IsHoldingRow row m
holding_next m taken row is next =
    let at = row_under (λ (a : ℕ × ℕ). holding a.0 a.1) (72 ∷ []) any_holding_is m row.key row.value is.tidy.rows next.there next.under in
    let value : row.value ≡ [] = (is.tidy.holdings.held at.a.0 at.a.1 row.value at.fits at.there).0 in
    let counted = held_counted_by_holders m at.a.0 at.a.1 is.tidy.holdings.counted_by_holders at.fits.0 at.fits.1 (at.there ∙ ap Some value) in
    record { plan = at.a.0; number = at.a.1; fits = at.fits; key = at.key_is; value = value; shared = (in_eight (counted.0 + 1), counted.2) }

-- a part
pub part_next : (m : KeyMap) (taken : List Entry) (row : Row) → IsNewTidy m → IsNextUnder (82 ∷ []) m taken (row.key, row.value) → IsPartRow row m
part_next m taken row is next =
    let at = row_under (λ (a : ℕ × ℕ × ℕ). part a.0 a.1 a.2) (82 ∷ []) any_part_is m row.key row.value is.tidy.rows next.there next.under in
    let told = is.tidy.counted.parts at.a.0 at.a.1 at.a.2 row.value at.fits at.there in
    let held : (number : ℕ) → Contains told.0 number → IsHeldOrGone m at.a.0 number = λ number among.
    elim (is.tidy.owned.parts at.a.0 at.a.1 at.a.2 row.value at.fits at.there) [
      | inl numbered ↦ inl (is.tidy.holdings.hold is.new numbered.0 at.a.0 number numbered.1
          (record { revision = at.a.1; index = at.a.2; part_fits = at.fits; numbers = told.0; chunks = told.1; row = at.there ∙ ap Some told.2; among = among }))
      | inr gone ↦ inr gone
    ] in
    let a = at.a in let fits = at.fits in
    record { plan = a.0; revision = a.1; index = a.2; fits = fits; key = at.key_is; numbers = told.0; chunks = told.1; value = told.2; held = held }

-- ---- what a part's row says
-- a holding's chunk has a count
pub count_there : (m : KeyMap) (row : Row) (plan number : ℕ) → IsKey (holding plan number) row.key → get m (key_of (holder_count number)) ≡ None → IsHoldingRow row m → ⊥
count_there m row plan number told lacks is =
    let rows = keys_differ (holding plan number) (holding is.plan is.number) told.fits is.fits (sym told.is ∙ is.key) in
    let same : is.number ≡ number = cc in
    no_value is.shared.0 (sym is.shared.1 ∙ ap (λ (n : ℕ). get m (key_of (holder_count n))) same ∙ lacks)

-- a part's plan
same_plan : (key : List ℕ) (plan revision index p r i : ℕ) → IsKey (part plan revision index) key → Fits (part p r i) → key ≡ key_of (part p r i) → plan ≡ p
same_plan key plan revision index p r i told fits is = let rows = keys_differ (part plan revision index) (part p r i) told.fits fits (sym told.is ∙ is) in cc

-- its chunks
pub entry_named : (m : KeyMap) (key value : List ℕ) (plan at index_at : ℕ) (numbers : List ℕ) → IsKey (part plan at index_at) key → AreChunks numbers → chunks_bytes numbers ≡ value → All (IsHeldOrGone m plan) numbers → IsEntryNamed m (key, value)
entry_named m key value plan at index_at numbers told chunks bytes all other revision index ns fits is are says number among =
    let same : plan ≡ other = same_plan key plan at index_at other revision index told fits is in
    let equal : numbers ≡ ns = chunks_differ numbers ns chunks are (bytes ∙ says) in
    subst (λ (p : ℕ). IsHeldOrGone m p number) same (All-contains (IsHeldOrGone m plan) numbers number all (subst (λ (l : List ℕ). Contains l number) (sym equal) among))

pub part_all : (m : KeyMap) (row : Row) (plan revision index : ℕ) (numbers : List ℕ) → IsKey (part plan revision index) row.key → AreChunks numbers → chunks_bytes numbers ≡ row.value → IsPartRow row m → All (IsHeldOrGone m plan) numbers
part_all m row plan revision index numbers told chunks bytes is =
    let same : plan ≡ is.plan = same_plan row.key plan revision index is.plan is.revision is.index told is.fits is.key in
    let equal : numbers ≡ is.numbers = chunks_differ numbers is.numbers chunks is.chunks (bytes ∙ is.value) in
    λ k d less. subst (λ (p : ℕ). IsHeldOrGone m p (get_or numbers k d)) (sym same) (is.held (get_or numbers k d) (subst (λ (l : List ℕ). Contains l (get_or numbers k d)) equal (Contains-get_or numbers k d less)))

-- ---- chunks that are noted
pub with_one : (P : ℕ → Type 0) (number : ℕ) (old new : List ℕ) → IsWithOne number old new → P number → All P old → All P new
with_one P number old new is here all = elim is [
  | inl at ↦ subst (All P) (sym at.1) (All-set P old at.0 number here all)
  | inr more ↦ subst (All P) (sym more) (All-push P old number all here)
]

pub plans_list : (P : ℕ → ℕ → Type 0) (plan : ℕ) (old new : ℕ × List ℕ) → IsPlansList plan old new → All (P old.0) old.1 → All (P plan) new.1
plans_list P plan old new is all = elim is.1 [
  | inl same ↦ subst (All (P plan)) (sym same.1) (subst (λ (p : ℕ). All (P p) old.1) same.0 all)
  | inr none ↦ subst (All (P plan)) (sym none) (All-nil (P plan))
]

-- ---- parts, one after the other
pub all_named : (m : KeyMap) (rows : List Entry) → under (82 ∷ []) (entries m) ≡ rows → AllByRecursion (IsEntryNamed m) rows → AreNamesHeld m
all_named m rows whole all plan number named =
    let key = key_of (part plan named.revision named.index) in
    all_found (IsEntryNamed m) key (chunks_bytes named.numbers) rows all (sym (found_among m (82 ∷ []) rows key refl whole) ∙ named.row)
    plan named.revision named.index named.numbers named.part_fits refl named.chunks refl number named.among
