-- The population clauses of Iowa Code 42.4(1). The populations are those of districts 1 to n, and the total is the state's. The ideal
-- population is the total divided by n: each clause is multiplied until nothing is divided, so nothing is rounded.
use Rattle.std.specs.{Int.abs_diff, Prelude.{ℕ, ◌-◌, ◌*◌, ◌<◌, ◌≤◌, Bool, nat_lt, List, length, get_or, filter, sum_by}}
use Rattle.audit_population.specs.{claim.People.districts, declared.deviations.Extremes.Extremes}

-- n times how far a district of n is from the ideal
abbrev pub deviation : ℕ → ℕ → ℕ → ℕ
deviation n total people = abs_diff (n * people) total

-- 42.4(1)a: the mean of the deviations is more than one percent of the ideal
abbrev pub MeanBreaks : List ℕ → ℕ → Type 0
MeanBreaks populations total = length populations * total < 100 * sum_by (deviation (length populations) total) populations

abbrev pub IsDistrict : List ℕ → ℕ → Type 0
IsDistrict populations d = (1 ≤ d) × (d ≤ length populations)

abbrev pub population_of : List ℕ → ℕ → ℕ
population_of populations d = get_or populations (d - 1) 0

-- 42.4(1)a: a district has more than five percent more people than another, the smaller
abbrev pub ExceedsByFivePercent : List ℕ → ℕ → ℕ → Type 0
ExceedsByFivePercent populations d e = 21 * population_of populations e < 20 * population_of populations d

-- the first of the districts with the most people
pub record IsFirstMostPopulous (populations : List ℕ) (d : ℕ) : Type 0 where
  pub district : IsDistrict populations d
  pub most : (e : ℕ) → IsDistrict populations e → population_of populations e ≤ population_of populations d
  pub first : (e : ℕ) → IsDistrict populations e → e < d → population_of populations e < population_of populations d

-- the first of the districts with the fewest people
pub record IsFirstLeastPopulous (populations : List ℕ) (d : ℕ) : Type 0 where
  pub district : IsDistrict populations d
  pub least : (e : ℕ) → IsDistrict populations e → population_of populations d ≤ population_of populations e
  pub first : (e : ℕ) → IsDistrict populations e → e < d → population_of populations d < population_of populations e

-- 42.4(1)a: some district has more than five percent more people than another
pub record RangeBreaks (populations : List ℕ) : Type 0 where
  pub most : ℕ
  pub least : ℕ
  pub most_is : IsDistrict populations most
  pub least_is : IsDistrict populations least
  pub exceeds : ExceedsByFivePercent populations most least

-- the first of the most and the first of the least populous districts, which break the range
pub record AreExtremes (populations : List ℕ) (e : Extremes) : Type 0 where
  pub most : IsFirstMostPopulous populations e.most
  pub least : IsFirstLeastPopulous populations e.least
  pub exceeds : ExceedsByFivePercent populations e.most e.least

-- 42.4(1)b: a district deviates from the ideal by more than one percent
abbrev pub deviates : List ℕ → ℕ → ℕ → Bool
deviates populations total d = nat_lt total (100 * deviation (length populations) total (population_of populations d))

-- the districts that do, rising
abbrev pub deviating_districts : List ℕ → ℕ → List ℕ
deviating_districts populations total = filter (deviates populations total) (districts (length populations))
