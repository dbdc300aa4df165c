-- A desk: a geography or none, and plans by their names.
use Rattle.{std.specs.{Cmp.Lexicographic.slice_cmp, Ordering.nat_cmp, Prelude.{ℕ, List, Option}, declared.cmp.Ordering.Ordering}, desk_model.specs.claim.Geography.GeographyModel}
use Rattle.desk_model.specs.declared.kind.Kind.{Kind}
use Rattle.std.specs.FinMap as map_of

-- names in the order of their bytes
abbrev pub name_cmp : List ℕ → List ℕ → Ordering
name_cmp = slice_cmp nat_cmp

-- a plan: each revision has the district of each block, in the blocks' order; 0 is none
pub record Plan : Type 0 where
  pub kind : Kind
  pub n : ℕ
  pub revisions : List (List ℕ)

pub record Desk : Type 0 where
  pub geography : Option GeographyModel
  pub plans : map_of.FinMap name_cmp Plan
