-- Which counties a command changes.
use Rattle.std.specs.Prelude.{◌≡◌, ◌+◌, ℕ, Bool, List, [], Option, Some, None}
use Rattle.desk_model.specs.{Ranges.ranges_in, claim.Desk.Desk, declared.command.Command.{Command, TheVariants.{Create, Whole, Counties, Retire, Fork}}}
use Rattle.{desk_model.specs.declared.ranges.CountyRange.CountyRange, desk_store_catalogue.specs.{Cutting.changes_in, Kept.revision_in, claim.Accepting.IsAfter}}
use Rattle.desk_store_catalogue.specs.declared.catalogue.Draft.{Draft}
use Rattle.std.specs.FinMap as map_of

-- whether each county changes in a revision after the one before it, none where there is no revision
abbrev pub changes_between : Option (List ℕ) → Option (List ℕ) → List CountyRange → List Bool
changes_between last None ranges = []
changes_between last (Some new) ranges = changes_in last new ranges

-- whether each changes by a command that leaves the desk `e`: none where the command gives no plan that is there a revision
abbrev pub changes_of : Desk → Command → Desk → List CountyRange → List Bool
changes_of d (Create name size) e ranges = []
changes_of d (Whole name after body) e ranges = changes_between
    (revision_in (map_of.get d.plans name) after) (revision_in (map_of.get e.plans name) (after + 1)) ranges
changes_of d (Counties name after body) e ranges = changes_between
    (revision_in (map_of.get d.plans name) after) (revision_in (map_of.get e.plans name) (after + 1)) ranges
changes_of d (Retire name) e ranges = []
changes_of d (Fork name from) e ranges = []

-- the desk after a command, and whether it changes each of the counties
pub record IsDrafted (d : Desk) (c : Command) (draft : Draft) : Type 0 where
  pub after : IsAfter d c draft.catalogue
  pub changes : draft.changes.items ≡ changes_of d c draft.catalogue (ranges_in d.geography)
