-- What is found under a prefix is left over.
use Rattle.{std.specs.{FinMap.get, List.starts_with, Prelude.{Contains, Option}}, btree_scan.specs.declared.rows.Row.Row, desk_store_rows.specs.{RowKeys.IsKey, TurnLaws.IsLetGo}}
use Rattle.{std.proofs.Common.{◌≡◌, ◌<◌, ◌^◌, ℕ, List, [], nat_eq, true, Some, None, refl, sym, ap, subst, ◌∙◌, ◌++◌, ◌∷◌, arith}, desk_store_rows.specs.claim.Rows.{KeyMap, Has}}
use Rattle.desk_store_rows.{specs.{Keys.{plan_parts_prefix, load_prefix}, claim.{Lists.{AreChunks, chunks_bytes}, Tidy.{AreRows, IsNamedBy}}}, proofs.KeyPrefixes.starts_itself}
use Rattle.desk_store_rows.specs.claim.Keys.{RowKey, key_of, counters, retired, begun, holding, part, block, pair, chunk, in_eight, retired_prefix, begun_prefix, holdings_prefix, in_four, in_one}
use Rattle.plan_revisions_sweeps.specs.Finding.{IsUnder, IsMark, IsPieceOf, IsDone, IsLeft, IsLeftKey, IsLeftHolding, HasPlanMark, HasLoadMark, HoldsNone, spared_key}
use Rattle.{plan_revisions_sweeps.specs.{Leftovers.{IsNoLoads, IsOfLoad, IsSpared}, declared.leftovers.Left.Left}, desk_store_rows.proofs.RowLaws.keys_differ}
use Rattle.plan_revisions_sweeps.proofs.Keys.{IsRowOf, row_under, retired_is, begun_is, holding_is, part_is, staged_is}

abbrev pub NoneUnder : List ℕ → KeyMap → Type 0
NoneUnder prefix m = (key : List ℕ) → starts_with nat_eq key prefix ≡ true → get m key ≡ None

module _ (m : KeyMap) where
  -- ---- holdings
  holding_row : (plan : ℕ) → plan < 2 ^ 64 → AreRows m → (row : Row) → IsUnder (holdings_prefix plan) row m
      → IsRowOf (holding plan) m row.key row.value
  holding_row plan few rows row is = row_under (holding plan) (holdings_prefix plan) (holding_is plan few) m row.key row.value rows is.there is.under

  pub holding_told : (plan : ℕ) → plan < 2 ^ 64 → HasPlanMark plan m → (row : Row) → IsUnder (holdings_prefix plan) row m → ((p number : ℕ) → row.key ≡ key_of (holding p number) → ⊥) → ⊥
  holding_told plan few has row is none = let at = holding_row plan few has.0.rows row is in none plan at.a at.key_is

  pub holding_left : (plan : ℕ) → plan < 2 ^ 64 → HasPlanMark plan m → (row : Row) → IsUnder (holdings_prefix plan) row m → (p number : ℕ) → IsKey (holding p number) row.key → IsLeftHolding m plan number
  holding_left plan few has row is p number told =
      let at = holding_row plan few has.0.rows row is in
      let rows = keys_differ (holding p number) (holding plan at.a) told.fits at.fits (sym told.is ∙ at.key_is) in
      let same : number ≡ at.a = cc in
      let held = has.0.holdings.held plan at.a row.value at.fits at.there in
      subst (λ (n : ℕ). IsLeftHolding m plan n) (sym same) (record { fits = at.fits; mark = has.1; held = at.there ∙ ap Some held.0 })

  pub holds_none : (plan : ℕ) → NoneUnder (holdings_prefix plan) m → HoldsNone plan m
  holds_none plan none number = none (key_of (holding plan number)) (starts_itself (holdings_prefix plan) (in_eight number))

  -- ---- parts
  part_row : (plan : ℕ) → plan < 2 ^ 64 → (key value : List ℕ) → AreRows m → get m key ≡ Some value
      → starts_with nat_eq key (plan_parts_prefix plan) ≡ true → IsRowOf (λ (a : ℕ × ℕ). part plan a.0 a.1) m key value
  part_row plan few = row_under (λ (a : ℕ × ℕ). part plan a.0 a.1) (plan_parts_prefix plan) (part_is plan few) m

  -- its value names chunks
  pub part_told : (plan : ℕ) → plan < 2 ^ 64 → HasPlanMark plan m → (row : Row) → IsUnder (plan_parts_prefix plan) row m → ((numbers : List ℕ) → AreChunks numbers → chunks_bytes numbers ≡ row.value → ⊥) → ⊥
  part_told plan few has row is none =
      let at = part_row plan few row.key row.value has.0.rows is.there is.under in
      let (numbers, chunks, value) = has.0.counted.parts plan at.a.0 at.a.1 row.value at.fits at.there in
      none numbers chunks (sym value)

  pub part_left : (plan : ℕ) → plan < 2 ^ 64 → HasPlanMark plan m → (row : Row) → IsUnder (plan_parts_prefix plan) row m → (numbers : List ℕ) → AreChunks numbers → chunks_bytes numbers ≡ row.value → HoldsNone plan m → ((number : ℕ) → Contains numbers number → IsDone m number) → IsLeftKey m row.key IsNoLoads
  part_left plan few has row is numbers chunks value none gone =
      let at = part_row plan few row.key (chunks_bytes numbers) has.0.rows (is.there ∙ ap Some (sym value)) is.under in
      let goes : IsLetGo m plan at.a.0 at.a.1 = record { numbers = numbers; chunks = chunks; row = at.there; let_go = λ number among. none number; gone = gone } in
      record { row = part plan at.a.0 at.a.1; fits = at.fits; key_is = at.key_is; left = (has.1, goes); is_apart = λ load of. of }

  pub piece_left : (plan : ℕ) → plan < 2 ^ 64 → HasPlanMark plan m → (row : Row) → IsUnder (plan_parts_prefix plan) row m → (numbers : List ℕ) → AreChunks numbers → chunks_bytes numbers ≡ row.value → (key : List ℕ) → IsPieceOf numbers key m → IsLeftKey m key IsNoLoads
  piece_left plan few has row is numbers chunks value key piece =
      let at = part_row plan few row.key (chunks_bytes numbers) has.0.rows (is.there ∙ ap Some (sym value)) is.under in
      let named : IsNamedBy m plan piece.number =
      record { revision = at.a.0; index = at.a.1; part_fits = at.fits; numbers = numbers; chunks = chunks; row = at.there; among = piece.among } in
      let row = chunk piece.number piece.piece in
      record { row = row; fits = piece.fits; key_is = piece.key_is; left = (plan, has.1, named, piece.unshared); is_apart = λ load of. of }

  pub plan_mark_left : (plan : ℕ) → plan < 2 ^ 64 → HasPlanMark plan m → NoneUnder (plan_parts_prefix plan) m → IsLeftKey m (key_of (retired plan)) IsNoLoads
  plan_mark_left plan few has none =
      let no_part = λ (revision index : ℕ). none (key_of (part plan revision index)) (starts_itself (plan_parts_prefix plan) (in_four revision ++ in_one index)) in
      record { row = retired plan; fits = few; key_is = refl; left = (has.1, λ revision index _. no_part revision index); is_apart = λ load of. of }

  -- ---- loads
  pub load_left : (load : ℕ) → load < 2 ^ 64 → HasLoadMark load m → (row : Row) → IsUnder (load_prefix load) row m → IsLeftKey m row.key (IsOfLoad load)
  load_left load few has row is = search (arith, has.0.rows, row.key, row.value, is.there, has.1, staged_is, is.under)

  pub load_mark_left : (load : ℕ) → load < 2 ^ 64 → HasLoadMark load m → NoneUnder (load_prefix load) m → IsLeftKey m (key_of (begun load)) (IsOfLoad load)
  load_mark_left load few has none =
      let no_row = λ (place kind : ℕ). none (load_prefix load ++ kind ∷ in_four place) (starts_itself (load_prefix load) (kind ∷ in_four place)) in
      record { row = begun load; fits = few; key_is = refl; left = (has.1, λ place small. (no_row place 98, no_row place 112)); is_apart = refl }

  -- ---- marks
  pub retired_told : AreRows m → (spared : List ℕ) (row : Row) → IsMark retired_prefix spared row m → ((plan : ℕ) → row.key ≡ key_of (retired plan) → ⊥) → ⊥
  retired_told rows spared row is none =
      let at = row_under retired retired_prefix (λ of fits on. let mark = retired_is of fits on in (mark.0, mark.2)) m row.key [] rows is.there is.under in
      none at.a at.key_is

  pub begun_told : AreRows m → (spared : List ℕ) (row : Row) → IsMark begun_prefix spared row m → ((load : ℕ) → row.key ≡ key_of (begun load) → ⊥) → ⊥
  begun_told rows spared row is none =
      let at = row_under begun begun_prefix (λ of fits on. let mark = begun_is of fits on in (mark.0, mark.2)) m row.key [] rows is.there is.under in
      none at.a at.key_is

  -- it stands under its row's key
  pub mark_of : (of : RowKey) (prefix spared : List ℕ) (row : Row) → row.key ≡ key_of of → IsMark prefix spared row m → Has m of []
  mark_of of prefix spared row told is = ap (get m) (sym told) ∙ is.there

  -- none without a value is left but the one that is spared
  pub no_retired : ((key : List ℕ) → starts_with nat_eq key retired_prefix ≡ true → (key ≡ key_of counters → ⊥) → get m key ≡ Some [] → ⊥) → (plan : ℕ) → plan < 2 ^ 64 → Has m (retired plan) [] → ⊥
  no_retired none plan few there = none (key_of (retired plan)) (starts_itself retired_prefix (in_eight plan))
      (λ same. let e = keys_differ (retired plan) counters few tt same in cc) there

  spared_is : (running : Option ℕ) (load : ℕ) → load < 2 ^ 64 → ((l : ℕ) → running ≡ Some l → l < 2 ^ 64) → (IsSpared running (begun load) → ⊥) → key_of (begun load) ≡ spared_key running → ⊥
  spared_is None load few fits apart same = let e = keys_differ (begun load) counters few tt same in cc
  spared_is (Some l) load few fits apart same = apart (let e = keys_differ (begun load) (begun l) few (fits l refl) same in cc)

  pub no_begun : (running : Option ℕ) → ((l : ℕ) → running ≡ Some l → l < 2 ^ 64) → ((key : List ℕ) → starts_with nat_eq key begun_prefix ≡ true → (key ≡ spared_key running → ⊥) → get m key ≡ Some [] → ⊥) → (load : ℕ) → load < 2 ^ 64 → (IsSpared running (begun load) → ⊥) → Has m (begun load) [] → ⊥
  no_begun running fits none load few apart there = none (key_of (begun load)) (starts_itself begun_prefix (in_eight load)) (spared_is running load few fits apart) there

  -- a row of a load that isn't spared
  pub apart_mark : (running : Option ℕ) (load : ℕ) (row : Row) → row.key ≡ key_of (begun load) → IsMark begun_prefix (spared_key running) row m → (left : RowKey) → IsOfLoad load left → IsSpared running left → ⊥
  apart_mark None load row told is left of spared = spared
  apart_mark (Some l) load row told is left of spared = is.apart (told ∙ ap (λ (n : ℕ). key_of (begun n)) (same_load load l left of spared))
    where
      same_load : (a b : ℕ) (left : RowKey) → IsOfLoad a left → IsOfLoad b left → a ≡ b
      same_load a b (begun other) x y = sym x ∙ y
      same_load a b (block other place) x y = sym x ∙ y
      same_load a b (pair other place) x y = sym x ∙ y
      same_load a b _ x y = absurd x

  pub load_next_left : (running : Option ℕ) (load : ℕ) (row : Row) → row.key ≡ key_of (begun load) → IsMark begun_prefix (spared_key running) row m → (key : List ℕ) → IsLeftKey m key (IsOfLoad load) → IsLeftKey m key (λ of. IsSpared running of → ⊥)
  load_next_left running load row told is key found = record { row = found.row; fits = found.fits; key_is = found.key_is; left = found.left; is_apart = apart_mark running load row told is found.row found.is_apart }

-- a row of no load isn't spared
not_spared : (running : Option ℕ) (row : RowKey) → IsNoLoads row → IsSpared running row → ⊥
not_spared running row none is = search (arith, none)

pub plan_next : (running : Option ℕ) (m : KeyMap) (key : List ℕ) (found : Left) → IsLeft m key IsNoLoads found → IsLeft m key (λ row. IsSpared running row → ⊥) found
plan_next running m key found other_found = search (arith, not_spared)
