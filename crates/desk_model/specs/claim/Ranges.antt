-- The counties of a state's blocks. Blocks rise by number, so a county's stand together, and counties rise.
use Rattle.std.specs.Prelude.{ℕ, ◌+◌, ◌==◌, if◌then◌else◌, List, [], ◌∷◌, map, take, drop}
use Rattle.desk_model.specs.claim.{Block.county_of, Geography.{GeographyModel, ids}}

-- a run of a number has come so far: how long it gets, and how long the runs after it are
abbrev pub runs_from : ℕ → ℕ → List ℕ → List ℕ
runs_from c n [] = n ∷ []
runs_from c n (d ∷ ds) = if d == c then runs_from c (n + 1) ds else n ∷ runs_from d 1 ds

-- how long each run of one number is
abbrev pub runs : List ℕ → List ℕ
runs [] = []
runs (c ∷ cs) = runs_from c 1 cs

-- the county of each block
abbrev pub counties : GeographyModel → List ℕ
counties g = map county_of (ids g)

-- how many blocks each county has
abbrev pub sizes : GeographyModel → List ℕ
sizes g = runs (counties g)

-- a list in parts of so many elements
abbrev pub parts : List ℕ → List ℕ → List (List ℕ)
parts [] xs = []
parts (n ∷ ns) xs = take n xs ∷ parts ns (drop n xs)

-- a list beside the blocks, county by county
abbrev pub cut : GeographyModel → List ℕ → List (List ℕ)
cut g xs = parts (sizes g) xs
