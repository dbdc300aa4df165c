-- Which rows a key that begins with a tag or a prefix can be of.
use Rattle.{std.specs.{FinMap.get, List.starts_with, Prelude.Some}, desk_store_rows.specs.{Keys.{plan_parts_prefix, load_prefix}, claim.{Rows.{KeyMap, Has}, Tidy.AreRows}}}
use Rattle.std.proofs.Common.{◌≡◌, ◌<◌, ◌≤◌, ◌^◌, ◌+◌, ◌++◌, ℕ, true, nat_eq, List, [], ◌∷◌, length, refl, sym, ap, subst, ◌∙◌, arith}
use Rattle.desk_store_rows.specs.claim.Keys.{RowKey, key_of, Fits, retired, begun, holding, holder_count, part, block, pair, in_one, in_four, in_eight, retired_prefix, begun_prefix, holdings_prefix}
use Rattle.desk_store_rows.proofs.{HolderCounts.eight_says, KeyPrefixes.starts_same}

-- a row of a map is of this kind
pub record IsRowOf {A : Type 0} (of : A → RowKey) (m : KeyMap) (key value : List ℕ) : Type 0 where
  pub a : A
  pub fits : Fits (of a)
  pub key_is : key ≡ key_of (of a)
  pub there : Has m (of a) value

-- one under a prefix, with which keys of this kind alone begin
pub row_under : {A : Type 0} (of : A → RowKey) (prefix : List ℕ)
    → ((row : RowKey) → Fits row → starts_with nat_eq (key_of row) prefix ≡ true → (a : A) × (row ≡ of a))
    → (m : KeyMap) (key value : List ℕ) → AreRows m → get m key ≡ Some value → starts_with nat_eq key prefix ≡ true → IsRowOf of m key value
row_under of prefix only m key value rows there under =
    let (row, fits, same) = rows key value there in
    let kind = only row fits (subst (λ (k : List ℕ). starts_with nat_eq k prefix ≡ true) same under) in
    let key_is : key ≡ key_of (of kind.0) = same ∙ ap key_of kind.1 in
    record { a = kind.0; fits = subst Fits kind.1 fits; key_is = key_is; there = ap (get m) (sym key_is) ∙ there }

-- ---- under a tag
pub any_holding_is : (row : RowKey) → Fits row → starts_with nat_eq (key_of row) (72 ∷ []) ≡ true → (a : ℕ × ℕ) × (row ≡ holding a.0 a.1)
any_holding_is (holding plan number) fits on = ((plan, number), refl)
any_holding_is _ fits on = cc

pub holder_count_is : (row : RowKey) → Fits row → starts_with nat_eq (key_of row) (75 ∷ []) ≡ true → (number : ℕ) × (row ≡ holder_count number)
holder_count_is (holder_count number) fits on = (number, refl)
holder_count_is _ fits on = cc

pub any_part_is : (row : RowKey) → Fits row → starts_with nat_eq (key_of row) (82 ∷ []) ≡ true → (a : ℕ × ℕ × ℕ) × (row ≡ part a.0 a.1 a.2)
any_part_is (part plan revision index) fits on = ((plan, revision, index), refl)
any_part_is _ fits on = cc

-- the number that a key begins with, after its tag
pub number_is : (a b : ℕ) (rest : List ℕ) → a < 2 ^ 64 → b < 2 ^ 64 → starts_with nat_eq (in_eight a ++ rest) (in_eight b) ≡ true → a ≡ b
number_is a b rest fa fb on = sym (eight_says b a fb fa (starts_same (in_eight b) (in_eight a) rest refl on))

-- ---- marks
pub retired_is : (row : RowKey) → Fits row → starts_with nat_eq (key_of row) retired_prefix ≡ true → (plan : ℕ) × (plan < 2 ^ 64) × (row ≡ retired plan)
retired_is row fits on = search (arith)

pub begun_is : (row : RowKey) → Fits row → starts_with nat_eq (key_of row) begun_prefix ≡ true → (load : ℕ) × (load < 2 ^ 64) × (row ≡ begun load)
begun_is row fits on = search (arith)

-- ---- holdings
pub holding_is : (plan : ℕ) → plan < 2 ^ 64 → (row : RowKey) → Fits row → starts_with nat_eq (key_of row) (holdings_prefix plan) ≡ true → (number : ℕ) × (row ≡ holding plan number)
holding_is plan few (holding other number) fits on = (number, ap (λ (p : ℕ). holding p number) (number_is other plan (in_eight number) fits.0 few on))
holding_is plan few _ fits on = cc

-- ---- parts
pub part_is : (plan : ℕ) → plan < 2 ^ 64 → (row : RowKey) → Fits row → starts_with nat_eq (key_of row) (plan_parts_prefix plan) ≡ true → (a : ℕ × ℕ) × (row ≡ part plan a.0 a.1)
part_is plan few (part other revision index) fits on = ((revision, index), ap (λ (p : ℕ). part p revision index) (number_is other plan (in_four revision ++ in_one index) fits.0 few on))
part_is plan few _ fits on = cc

-- ---- rows of loads
pub data IsStagedRow (load : ℕ) : RowKey → Type 0 where
  of_block : (place : ℕ) → IsStagedRow load (block load place)
  of_pair : (place : ℕ) → IsStagedRow load (pair load place)

pub staged_is : (load : ℕ) → load < 2 ^ 64 → (row : RowKey) → Fits row → starts_with nat_eq (key_of row) (load_prefix load) ≡ true → IsStagedRow load row
staged_is load few (block other place) fits on = subst (λ (l : ℕ). IsStagedRow load (block l place)) (sym (number_is other load (98 ∷ in_four place) fits.0 few on)) (of_block place)
staged_is load few (pair other place) fits on = subst (λ (l : ℕ). IsStagedRow load (pair l place)) (sym (number_is other load (112 ∷ in_four place) fits.0 few on)) (of_pair place)
staged_is load few _ fits on = cc

-- a key has 1 to 72 bytes
pub key_short : (row : RowKey) → Fits row → (0 < length (key_of row)) × (length (key_of row) ≤ 72)
key_short row fits = search (arith)
