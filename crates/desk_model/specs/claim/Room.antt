-- How much room a store needs for a command.
use Rattle.{std.specs.{Cmp.Lexicographic.pointwise, List.zip}, desk_model.specs.claim.{Desk.{Plan, Desk}, Geography.GeographyModel, Ranges.{sizes, cut}, Step.step}}
use Rattle.std.specs.Prelude.{ℕ, ◌+◌, ◌-◌, ◌*◌, ◌/◌, Bool, not, nat_eq, List, [], map, filter, length, sum_by, Option, Some, None, unwrap_or}
use Rattle.desk_model.specs.{claim.Subject.revision_at, declared.command.Command.{Command, TheVariants.{Create, Whole, Counties, Retire, Fork}}}
use Rattle.std.specs.FinMap as map_of

-- so many rows of that size hold the number
abbrev pub rows_for : ℕ → ℕ → ℕ
rows_for size n = (n + (size - 1)) / size

-- a county's districts before and after
abbrev pub differs : List ℕ × List ℕ → Bool
differs e = not (pointwise nat_eq e.0 e.1)

-- the districts of the counties that are changed, county by county: of each county where there is no revision before
abbrev pub changed : GeographyModel → Option (List ℕ) → List ℕ → List (List ℕ)
changed g None new = cut g new
changed g (Some last) new = map (λ e. e.1) (filter differs (zip (cut g last) (cut g new)))

-- the rows of a revision: the plan's and the counters', one for each 128 counties, and of a changed county one for each 512 blocks,
-- and two that tell who holds them
abbrev pub revision_rows : GeographyModel → Option (List ℕ) → List ℕ → ℕ
revision_rows g last new =
    2 + rows_for 128 (length (sizes g)) + sum_by (λ part. rows_for 512 (length part)) (changed g last new) + 2 * length (changed g last new)

-- the rows of a fork: the plan's and the counters', when it is made and when it gets its revision, one for each 128 counties, and of each
-- county two that tell who holds its blocks
abbrev pub fork_rows : GeographyModel → ℕ
fork_rows g = 4 + rows_for 128 (length (sizes g)) + 2 * length (sizes g)

abbrev pub last_revision : Plan → Option (List ℕ)
last_revision p = revision_at p (length p.revisions)

abbrev pub added_rows : Option GeographyModel → Option Plan → Option Plan → ℕ
added_rows (Some g) (Some old) (Some new) = revision_rows g (last_revision old) (unwrap_or (last_revision new) [])
added_rows (Some g) (Some old) None = 0
added_rows (Some g) None new = 0
added_rows None old new = 0

abbrev pub forked_rows : Option GeographyModel → ℕ
forked_rows (Some g) = fork_rows g
forked_rows None = 0

-- the rows that a command writes where it is accepted
abbrev pub command_rows : Desk → Command → ℕ
command_rows d (Create name size) = 2
command_rows d (Whole name after body) = added_rows d.geography (map_of.get d.plans name) (map_of.get (step d (Whole name after body)).1.plans name)
command_rows d (Counties name after body) = added_rows d.geography
    (map_of.get d.plans name) (map_of.get (step d (Counties name after body)).1.plans name)
command_rows d (Retire name) = 2
command_rows d (Fork name from) = forked_rows d.geography

-- the pages that a command needs: a row writes 13 at most
abbrev pub need : Desk → Command → ℕ
need d c = 13 * command_rows d c
