-- Which chunks a new revision names: a county that is as before keeps its chunk, each other one gets the next number.
use Rattle.std.specs.{List.zip, Prelude.{true, ◌≡◌, ◌≤◌, ◌+◌, ◌*◌, ◌^◌, ℕ, if◌then◌else◌, List, [], ◌∷◌, map, filter, length, Option, All}}
use Rattle.{desk_model.specs.claim.{Geography.GeographyModel, Ranges.sizes, Room.{differs, changed, revision_rows}}, desk_store_rows.specs.claim.Rows.KeyMap}
use Rattle.desk_store_rows.specs.{RevisionSteps.{IsChunkList, AreKept, IsDrawn, rows_of_revision}, declared.value.{Counters.Counters, StoredPlan.StoredPlan}}

-- the chunks of a later revision, from those of the one before
abbrev pub draw : ℕ → List ℕ → List (List ℕ) → List (List ℕ) → List ℕ
draw next [] olds news = []
draw next (number ∷ numbers) [] news = []
draw next (number ∷ numbers) (old ∷ olds) [] = []
draw next (number ∷ numbers) (old ∷ olds) (new ∷ news) = if differs (old, new) then next
    ∷ draw (next + 1) numbers olds news else number ∷ draw next numbers olds news

-- the counties that get a new one
abbrev pub redrawn : List (List ℕ) → List (List ℕ) → List (List ℕ)
redrawn olds news = map (λ e. e.1) (filter differs (zip olds news))

-- the first revision gets a new one for each county
abbrev pub draw_all : ℕ → List (List ℕ) → List ℕ
draw_all next [] = []
draw_all next (new ∷ news) = next ∷ draw_all (next + 1) news

abbrev pub FirstsAreDrawn : Type 0
FirstsAreDrawn = (m : KeyMap) (next : Counters) (plan : ℕ) (counties : List (List ℕ)) → length counties ≤ 128 * 2 ^ 8
    → All IsChunkList counties → IsDrawn m next plan counties (draw_all next.chunk counties) counties

abbrev pub ChangesAreDrawn : Type 0
ChangesAreDrawn = (m : KeyMap) (next : Counters) (plan : ℕ) (numbers : List ℕ) (olds news : List (List ℕ))
    → AreKept m plan numbers olds → length olds ≡ length news → length news ≤ 128 * 2 ^ 8 → All IsChunkList news
    → IsDrawn m next plan (redrawn olds news) (draw next.chunk numbers olds news) news

-- in the new version the rows are as many as a command is to have room for
abbrev pub RowsAreCounted : Type 0
RowsAreCounted = (g : GeographyModel) (last : Option (List ℕ)) (new : List ℕ) (next : Counters) (name : List ℕ) (p : StoredPlan) (numbers : List ℕ)
    → length numbers ≡ length (sizes g)
    → length (rows_of_revision true next name p (changed g last new) numbers) ≡ revision_rows g last new
