-- What is kept of revisions.
use Rattle.std.specs.Prelude.{◌≡◌, ℕ, List, length, All, Option, Some, None, Result, Err, IfSome}
use Rattle.desk_model.specs.{claim.{Baf.{Values, Fault}, Desk.{Plan, name_cmp}, Geography.GeographyModel, Step.blocks_text, Subject.revision_at}, declared.reply.Refusal.Refusal}
use Rattle.desk_model.specs.declared.reply.Refusal.TheVariants.{BadBody, Memory}
use Rattle.std.specs.FinMap as map_of

-- every revision of a plan has a district for each block
abbrev pub AreWhole : Option GeographyModel → map_of.FinMap name_cmp Plan → Type 0
AreWhole geography plans = (g : GeographyModel) (name : List ℕ) (p : Plan) → geography ≡ Some g
    → map_of.get plans name ≡ Some p → All (λ d. length d ≡ length g.blocks) p.revisions

-- and each revision of this plan has
abbrev pub HasWhole : Option GeographyModel → Plan → Type 0
HasWhole geography p = (g : GeographyModel) (k : ℕ) → geography ≡ Some g → IfSome (revision_at p k) (λ d. length d ≡ length g.blocks)

-- revision k of a plan, from 1, where there is such a plan
abbrev pub revision_in : Option Plan → ℕ → Option (List ℕ)
revision_in None k = None
revision_in (Some p) k = revision_at p k

-- the districts, if there are any, have one for each block
abbrev pub IsWhole : Option GeographyModel → Option (List ℕ) → Type 0
IsWhole geography districts = (g : GeographyModel) (d : List ℕ) → geography ≡ Some g → districts ≡ Some d → length d ≡ length g.blocks

-- the districts of the revision, if there is one, and one for each block
pub record IsRevision (geography : Option GeographyModel) (revision found : Option (List ℕ)) : Type 0 where
  pub value : found ≡ revision
  pub whole : IsWhole geography found

-- a text, if there is one, lists the blocks of the geography
abbrev pub ListsBlocks : Option GeographyModel → Option (List ℕ) → Type 0
ListsBlocks geography text = (g : GeographyModel) (t : List ℕ) → geography ≡ Some g → text ≡ Some t → t ≡ blocks_text g

-- a body's first fault, or that memory was refused
abbrev pub IsRefusalOf : Result Values Fault → Refusal → Type 0
IsRefusalOf reading (BadBody code line) = reading ≡ Err (code, line)
IsRefusalOf reading Memory = Unit {0}
IsRefusalOf reading _ = ⊥
