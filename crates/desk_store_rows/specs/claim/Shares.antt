-- A plan comes to hold chunks of another plan.
use Rattle.{std.{specs.{Int.from_be_bytes, Prelude.{ℕ, List, Option, Some, None}}, proofs.Common.w64}, desk_store_rows.specs.claim.{Holders.holding_rows, Puts.put_rows}}
use Rattle.desk_store_rows.specs.claim.{Keys.{holding, holder_count}, Rows.{KeyMap, row_in}}

-- how many plans the row of a count tells
abbrev pub count_of : Option (List ℕ) → ℕ
count_of None = 0
count_of (Some value) = from_be_bytes w64 value

-- The map in which a plan holds a chunk: two rows more or changed, or none where the plan holds it already.
abbrev pub hold_by : Option (List ℕ) → KeyMap → ℕ → ℕ → KeyMap
hold_by (Some value) m plan number = m
hold_by None m plan number = put_rows m (holding_rows plan number (count_of (row_in m (holder_count number))))

abbrev pub hold : KeyMap → ℕ → ℕ → KeyMap
hold m plan number = hold_by (row_in m (holding plan number)) m plan number
