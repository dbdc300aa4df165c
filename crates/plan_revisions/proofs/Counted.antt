-- The rows of a revision that was accepted.
use Rattle.std.{specs.Prelude.IfSome, proofs.{Common.{◌≡◌, ◌⊎◌, ◌+◌, ℕ, Bool, List, length, Option, Some, sym, ap, ◌∙◌, arith}, lemmas.List.length-map}}
use Rattle.desk_model.specs.{Ranges.{ranges_in, ranges_of}, claim.{Desk.Desk, Geography.GeographyModel}, declared.command.Command.{Command, TheVariants.{Whole, Counties}}}
use Rattle.{desk_model.specs.declared.ranges.CountyRange.CountyRange, desk_store_catalogue.specs.{Cutting.{changes_in, is_changed}, Drafts.{changes_between, changes_of}}}
use Rattle.{desk_store_catalogue.specs.{Kept.{IsWhole, revision_in}, claim.Accepting.IsAfter}, plan_revisions.specs.Accepted.IsRevised}
use Rattle.plan_revisions.proofs.Accepted.{counties_revised, next_is, whole_revised}
use Rattle.std.specs.FinMap as map_of

-- a geography that a desk has is the one that it is known by
pub same_geography : (d : Desk) (g h : GeographyModel) → d.geography ≡ Some g → d.geography ≡ Some h → g ≡ h
same_geography d g h one other = cc

-- each that is there has a district for each block
pub if_whole : (d : Desk) (g : GeographyModel) (last : Option (List ℕ)) → d.geography ≡ Some g → IsWhole d.geography last → IfSome last (λ l. length l ≡ length g.blocks)
if_whole d g last is whole = search (arith, whole)

-- which counties change in the revision that the plan got
module _ (d : Desk) (name : List ℕ) (after : ℕ) (e : Desk) (r : IsRevised d name after e) (ranges : List CountyRange) (changes : List Bool) where
  abbrev AreChanges : Type 0
  AreChanges = changes ≡ changes_between (revision_in (map_of.get d.plans name) after) (revision_in (map_of.get e.plans name) (after + 1)) ranges

  pub changes_told : AreChanges → changes ≡ changes_in (revision_in (map_of.get d.plans name) after) r.districts ranges
  changes_told are = are ∙ ap (λ (o : Option (List ℕ)). changes_between (revision_in (map_of.get d.plans name) after) o ranges) (next_is d name after e r)

  pub each_told : AreChanges → length changes ≡ length ranges
  each_told are = ap length (changes_told are) ∙ length-map ranges (is_changed (revision_in (map_of.get d.plans name) after) r.districts)

  pub changes_now : (next : List ℕ) → next ≡ r.districts → AreChanges → changes ≡ changes_in (revision_in (map_of.get d.plans name) after) next ranges
  changes_now next is are = changes_told are ∙ ap (λ (l : List ℕ). changes_in (revision_in (map_of.get d.plans name) after) l ranges) (sym is)

-- whichever of the two commands it was
pub changes_by : (d : Desk) (q : Command) (name : List ℕ) (after : ℕ) (e : Desk) (g : GeographyModel) (changes : List Bool) → d.geography ≡ Some g → ((body : List ℕ) × (q ≡ Whole name after body)) ⊎ ((body : List ℕ) × (q ≡ Counties name after body))
    → changes ≡ changes_of d q e (ranges_in d.geography) → changes ≡ changes_between (revision_in (map_of.get d.plans name) after) (revision_in (map_of.get e.plans name) (after + 1)) (ranges_of g)
changes_by d q name after e g changes is given are = search (arith, is)

-- the plan of a command that was accepted got a revision more
pub revised_by : (d : Desk) (q : Command) (name : List ℕ) (after : ℕ) (e : Desk) → ((body : List ℕ) × (q ≡ Whole name after body)) ⊎ ((body : List ℕ) × (q ≡ Counties name after body)) → IsAfter d q e → IsRevised d name after e
revised_by d q name after e given is = search (arith, whole_revised, counties_revised)
