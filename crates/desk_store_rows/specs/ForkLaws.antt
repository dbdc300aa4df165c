-- A plan gets a revision with the chunks of another plan's, as a fork does.
use Rattle.std.specs.{FinMap.{FinMap, get}, Prelude.{true, ◌≡◌, ◌<◌, ◌≤◌, ◌*◌, ◌^◌, ℕ, List, length, Some, Contains}}
use Rattle.{desk_model.specs.claim.{Desk.{Plan, name_cmp}, Geography.GeographyModel, Ranges.cut}, desk_store_rows.specs.{Changes.{desk_with, plan_row_of}, RevisionSteps.AreKept}}
use Rattle.desk_store_rows.specs.{Shares.{CanHold, Holds, hold_all, with_shared}, Steps.chunks_more, TidyLaws.MakesRevision, claim.DeskRows.{HasPlan, IsDesk, most_revisions}}
use Rattle.desk_store_rows.specs.claim.{Rows.KeyMap, Tidy.Tidy}

-- a plan comes to hold so many chunks, one after the other
abbrev pub ChunksAreHeld : Type 0
ChunksAreHeld = (m : KeyMap) (limit plan : ℕ) (numbers : List ℕ) → CanHold m limit plan
    → ((number : ℕ) → Contains numbers number → number < 2 ^ 64) → Holds m (hold_all m plan numbers) limit plan numbers

-- the desk with that revision, and tidy rows
abbrev pub SharesMakeDesks : Type 0
SharesMakeDesks = (m : KeyMap) (tidy : Tidy m) → tidy.new ≡ true
    → (source : ℕ) (g : GeographyModel) (plans : FinMap name_cmp Plan) (name : List ℕ)
    (number : ℕ) (p : Plan) (districts : List ℕ) (numbers : List ℕ)
    → IsDesk m (desk_with g plans) → get plans name ≡ Some p → HasPlan m g name number p
    → length districts ≡ length g.blocks → length p.revisions < most_revisions
    → length numbers ≤ 128 * 2 ^ 8 → AreKept m source numbers (cut g districts)
    → MakesRevision g plans name p districts (chunks_more tidy.next 0) true (with_shared m tidy.next name (plan_row_of number p) numbers)
