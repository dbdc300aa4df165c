-- Rows of commands, by the counties of a geography.
use Rattle.std.{specs.Prelude.◌==◌, proofs.{Common.{rules, ◌≡◌, ◌<◌, ◌+◌, ℕ, Bool, List, [], ◌∷◌, length, Some, None, arith}, lemmas.Bool.cond_both}}
use Rattle.{std.proofs.lemmas.Option.{same_Some, none-some}, desk_model.specs.{Ranges.ranges_of, claim.{Desk.Desk, Geography.GeographyModel, Ranges.{runs_from, runs}}}}
use Rattle.{desk_model.specs.{claim.Room.command_rows, declared.{command.Command.Command, ranges.CountyRange.CountyRange}}, desk_store_catalogue.specs.Cutting.AreRevisionRows}
use Rattle.{inspect_command.specs.{Needs.{IsRevision, AreNeededBy, AreNeeded}, declared.needs.RowsNeeded.RowsNeeded}, desk_model.proofs.Runs.counties_long}
use Rattle.desk_store.proofs.plan_revisions.LastRevision.{ranges_long}

some_from : (c n : ℕ) (ds : List ℕ) → 0 < length (runs_from c n ds)
some_from c n [] = omega arith
some_from c n (d ∷ ds) = cond_both (d == c) (runs_from c (n + 1) ds) (n ∷ runs_from d 1 ds) (λ (l : List ℕ). 0 < length l) (λ _. some_from c (n + 1) ds) (λ _. omega arith)

some_runs : (cs : List ℕ) → 0 < length cs → 0 < length (runs cs)
some_runs [] some = absurd (omega arith)
some_runs (c ∷ cs) some = some_from c 1 cs

-- a geography has a county
pub some_ranges : (g : GeographyModel) → 0 < length g.blocks → 0 < length (ranges_of g)
some_ranges g some = search (counties_long, some_runs, ranges_long)

-- the rows of a revision of the geography
rows_told : (g : GeographyModel) (changes : List Bool) (rows : ℕ) (d : Desk) (c : Command) → AreRevisionRows (ranges_of g) changes rows → d.geography ≡ Some g → IsRevision d c changes → command_rows d c ≡ rows
rows_told g changes rows d c are is by = search rules

pub by_counties : (g : GeographyModel) (ranges : List CountyRange) (needed : RowsNeeded) → ranges ≡ ranges_of g → AreNeededBy ranges needed → AreNeeded (Some g) needed (length ranges)
by_counties g ranges needed is by = search (rules, same_Some, rows_told, ranges_long)

pub without_counties : AreNeeded None (record { revision = 0; patch = 0; fork = 0 }) 0
without_counties = search (rules, none-some)
