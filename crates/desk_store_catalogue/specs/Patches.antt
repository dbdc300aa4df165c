-- What a patch by counties makes of the last districts.
use Rattle.std.specs.{List.zip, Prelude.{◌≡◌, ◌<◌, ℕ, List, map, unwrap_or, Option, Some, None, Result, Err, IsOkAnd, IfOk, IfErr, IfSome, ◌++◌, ◌∷◌, [], length}}
use Rattle.desk_model.specs.{Ranges.ranges_in, claim.{Baf.{Values, Fault, body_read}, Desk.Desk, Geography.GeographyModel, Room.last_revision}, declared.reply.Refusal.Refusal}
use Rattle.desk_model.specs.{claim.Step.{partly_listed, patched, revision_limit}, declared.reply.Refusal.TheVariants.{BadBody, NotWholeCounty, Memory}}
use Rattle.desk_store_catalogue.specs.{Cutting.{AreComparable, StaysOutside, changes_in}, declared.{catalogue.Draft.Draft, patch.PatchResult.PatchResult}}
use Rattle.desk_store_plans.specs.Rows.{Row}
use Rattle.std.specs.FinMap as map_of

-- the listed districts, and the last ones where none is listed, 0 before there are any
abbrev pub overlaid : List (Option ℕ) → Option (List ℕ) → List ℕ
overlaid listed None = map (λ d. unwrap_or d 0) listed
overlaid listed (Some last) = map (λ e. unwrap_or e.0 e.1) (zip listed last)

-- a body's first fault, the least county that it lists in part, or that memory was refused
abbrev pub IsPatchRefusal : GeographyModel → Result Values Fault → Refusal → Type 0
IsPatchRefusal g reading (BadBody code line) = reading ≡ Err (code, line)
IsPatchRefusal g reading (NotWholeCounty county) = IsOkAnd reading (λ values. partly_listed g values ≡ Some county)
IsPatchRefusal g reading Memory = Unit {0}
IsPatchRefusal g reading _ = ⊥

-- the body is read, lists no county in part, and makes these districts of the last ones
abbrev pub IsPatched : GeographyModel → ℕ → List ℕ → Option (List ℕ) → List ℕ → Type 0
IsPatched g n body last districts =
    IsOkAnd (body_read g n body) (λ values. (partly_listed g values ≡ None) × (districts ≡ patched g values last))

-- so many as there are blocks, and outside the span they are the last ones
pub record IsMade (g : GeographyModel) (n : ℕ) (body : List ℕ) (last : Option (List ℕ)) (made : PatchResult) : Type 0 where
  pub is : IsPatched g n body last made.districts
  pub long : length made.districts ≡ length g.blocks
  pub stays : IfSome last (λ l. StaysOutside made.span.first made.span.end l made.districts)

-- the plan in a row of the desk may have these districts, which were made of its last ones, for its next revision
pub record MayHaveNext (d : Desk) (g : GeographyModel) (row : Row) (made : PatchResult) : Type 0 where
  pub there : d.geography ≡ Some g
  pub found : map_of.get d.plans row.0 ≡ Some row.1
  pub few : length row.1.revisions < revision_limit
  pub compared : AreComparable (λ n. n ≡ length g.blocks) (last_revision row.1) made.districts made.span

-- the desk with one more revision of the plan in a row
abbrev pub with_revision_of : Desk → Row → List ℕ → Desk
with_revision_of d row districts =
    record d { plans = map_of.insert d.plans row.0 (record row.1 { revisions = row.1.revisions ++ districts ∷ [] }) }

-- the draft has that desk and the counties that the revision changes, or memory was refused
pub record HasNext (d : Desk) (row : Row) (districts : List ℕ) (result : Result Draft Refusal) : Type 0 where
  pub ok : IfOk result (λ draft. draft.catalogue ≡ with_revision_of d row districts)
  pub changes : IfOk result (λ draft. draft.changes.items ≡ changes_in (last_revision row.1) districts (ranges_in d.geography))
  pub err : IfErr result (λ refusal. refusal ≡ Memory)
