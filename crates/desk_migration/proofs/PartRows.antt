-- Parts of revisions, and the chunks that they name.
use Rattle.{std.{specs.{FinMap.get, List.starts_with, Ordering.is_gt, Prelude.Contains}, proofs.lemmas.List.Elements.All-contains}, btree_scan.specs.declared.rows.Row.Row}
use Rattle.std.proofs.Common.{rules, ◌≡◌, inl, inr, ◌<◌, ◌^◌, ℕ, List, ◌++◌, take, drop, Bool, true, false, nat_eq, Some, sym, ap, subst, ◌∙◌, arith}
use Rattle.desk_migration.specs.{Outcomes.IsReadAs, Parts.{IsPartFrom, IsPartRow, IsUnderParts}, Walks.{after, HoldsEach, HoldsIt}, claim.Holding.{AllAreHeld, AreHeldTo, part_key}}
use Rattle.{desk_migration.specs.declared.parts.Part.Part, desk_store_opening.specs.{chunk_table.Holding.Stands, tidy.Rows.{IsFirst, NoneFrom}}}
use Rattle.desk_store_rows.specs.{Keys.parts_prefix, claim.{Holders.IsHeld, Keys.{RowKey, key_of, Fits, holding, part, in_one, in_four, in_eight}, Lists.{AreChunks, chunks_bytes}}}
use Rattle.{desk_store_rows.{specs.claim.{Rows.{KeyMap, Has}, Tidy.{IsNamedBy, Tidy}}, proofs.Frames.either_way}, page_btree.specs.node.claim.Places.key_cmp}
use Rattle.{desk_migration.proofs.Order.{from_after, from_or_same}, desk_store_rows.proofs.{ListLaws.chunks_differ, OneGeography.value_is}}
use Rattle.desk_store_opening.proofs.tidy.After.{from_tag}
use Rattle.desk_store_opening.proofs.tidy.FirstRows.{clash, first_least, first_there, none_after}
use Rattle.desk_store_opening.proofs.tidy.PartOrder.{starts_part}

-- the first row from a key on is that of a part, or there is no part
pub part_found : (found : Bool) (m : KeyMap) (from : List ℕ) (row : Row) → IsFirst true from row m → IsUnderParts from → starts_with nat_eq row.key parts_prefix ≡ found → IsPartFrom found from row m
part_found true m from row first under on = (first, on)
part_found false m from row first under off = none_after m from (row.key, row.value) first.0 first.1 parts_prefix under off

-- ---- rows of parts
-- a row under the key of parts is that of one
row_of_part : (m : KeyMap) (tidy : Tidy m) (row : Row) (of : RowKey) → Fits of → row.key ≡ key_of of → get m row.key ≡ Some row.value → IsUnderParts (key_of of) → IsPartRow row
row_of_part m tidy row (part plan revision index) fits is there on =
    let (numbers, chunks, value) = tidy.counted.parts plan revision index row.value fits (ap (get m) (sym is) ∙ there) in
    record { plan = plan; revision = revision; index = index; fits = fits; key_is = is; numbers = numbers; chunks = chunks; value_is = value }
row_of_part m tidy row _ fits is there on = cc

pub part_row : (m : KeyMap) (from : List ℕ) (row : Row) → Tidy m → IsPartFrom true from row m → IsPartRow row
part_row m from row tidy found =
    let there : get m row.key ≡ Some row.value = first_there m from (row.key, row.value) found.0.0 found.0.1 in
    let (of, fits, is) = tidy.rows row.key row.value there in
    row_of_part m tidy row of fits is there (subst IsUnderParts is found.1)

-- what its bytes tell
told_plan : (plan other revision index : ℕ) (key : List ℕ) → plan < 2 ^ 64 → other < 2 ^ 64 → key ≡ key_of (part other revision index) → in_eight plan ≡ take 8 (drop 1 key) → plan ≡ other
told_plan plan other revision index key fits other_fits is told = search rules

pub plan_is : (row : Row) (of : IsPartRow row) (plan : ℕ) → plan < 2 ^ 64 → in_eight plan ≡ take 8 (drop 1 row.key) → plan ≡ of.plan
plan_is row of plan fits told = told_plan plan of.plan of.revision of.index row.key fits of.fits.0 of.key_is told

pub numbers_are : (row : Row) (of : IsPartRow row) (numbers : List ℕ) → AreChunks numbers → chunks_bytes numbers ≡ row.value → numbers ≡ of.numbers
numbers_are row of numbers chunks told = chunks_differ numbers of.numbers chunks of.chunks (told ∙ of.value_is)

-- a row that is read as a part is that of one
pub read_as : (row : Row) (of : IsPartRow row) (read : Part) → IsReadAs row read → (read.plan ≡ of.plan) × (read.numbers.items ≡ of.numbers)
read_as row of read is = (plan_is row of read.plan is.fits is.plan, numbers_are row of read.numbers.items is.chunks is.value)

-- ---- a holding that stands is one
pub stands_held : (m : KeyMap) (tidy : Tidy m) (plan number : ℕ) → Fits (holding plan number) → Stands true plan number m → IsHeld m plan number
stands_held m tidy plan number fits stands = subst (λ (v : List ℕ). Has m (holding plan number) v) (tidy.holdings.held plan number stands.0 fits stands.1).0 stands.1

pub named_fits : (m : KeyMap) (plan number : ℕ) → IsNamedBy m plan number → Fits (holding plan number)
named_fits m plan number is = (is.part_fits.0, All-contains (λ n. n < 2 ^ 64) is.numbers number is.chunks.each is.among)

-- ---- where no part is left
pub all_held : (m : KeyMap) (from : List ℕ) → NoneFrom from parts_prefix m → AreHeldTo from m → AllAreHeld m
all_held m from none done plan number is = done plan number is (λ later. none (part_key m plan number is) (chunks_bytes is.numbers) is.row later (starts_part plan is.revision is.index))

-- ---- the part that comes first from a key on
module _ (m : KeyMap) (tidy : Tidy m) (from : List ℕ) (row : Row) (first : IsFirst true from row m) (done : AreHeldTo from m) where
  there : get m row.key ≡ Some row.value
  there = first_there m from (row.key, row.value) first.0 first.1

  -- no part stands between them
  pub part_reached : AreHeldTo row.key m
  part_reached plan number is short = search (rules, either_way, clash, first_least, first.0, first.1)

  module _ (of : IsPartRow row) where
    -- a part with the same key is the same
    same_part : HoldsEach of.plan of.numbers m → (plan number : ℕ) (is : IsNamedBy m plan number) → row.key ≡ part_key m plan number is → IsHeld m plan number
    same_part held plan number is same =
        let value : row.value ≡ chunks_bytes is.numbers = value_is row.value (chunks_bytes is.numbers) (sym there ∙ ap (get m) same ∙ is.row) in
        let numbers : is.numbers ≡ of.numbers = numbers_are row of is.numbers is.chunks (sym value) in
        let plans : plan ≡ of.plan = plan_is row of plan is.part_fits.0 (ap (λ (k : List ℕ). take 8 (drop 1 k)) (sym same)) in
        subst (λ (p : ℕ). IsHeld m p number) (sym plans) (All-contains (HoldsIt of.plan m) of.numbers number held (subst (λ (l : List ℕ). Contains l number) numbers is.among)).1

    -- one whose plan holds each chunk is passed
    pub part_passed : HoldsEach of.plan of.numbers m → AreHeldTo (after row.key) m
    part_passed held plan number is short = either_way (is_gt (key_cmp row.key (part_key m plan number is))) (IsHeld m plan number)
        (λ above. part_reached plan number is (λ later. clash (is_gt (key_cmp row.key (part_key m plan number is))) above later))
        (λ later. elim (from_or_same row.key (part_key m plan number is) later) [
          | inl less ↦ absurd (short (from_after row.key (part_key m plan number is) less))
          | inr same ↦ same_part held plan number is same
        ])

-- ---- where a migration begins
-- no part stands below the first key of parts
pub begins_held : (m : KeyMap) → AreHeldTo parts_prefix m
begins_held m plan number is short = absurd (short (from_tag 82 82 ((in_eight plan ++ in_four is.revision) ++ in_one is.index) (omega arith)))
