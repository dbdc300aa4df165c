-- Plans in the order of their names, and where a name stands among them.
use Rattle.std.specs.{Option.option_to_list, Ordering.is_lt, Prelude.{◌≡◌, ℕ, List, [], ◌∷◌, ◌++◌, true, Option, IsTrue}, declared.cmp.Ordering.TheVariants.Equal}
use Rattle.desk_model.specs.claim.Desk.{Plan, name_cmp}

-- a plan under its name
abbrev pub Row : Type 0
Row = List ℕ × Plan

-- the last of them is below the name
abbrev pub EndsBelow : List ℕ → List Row → Type 0
EndsBelow name [] = Unit {0}
EndsBelow name (e ∷ []) = IsTrue (is_lt (name_cmp e.0 name))
EndsBelow name (e ∷ f ∷ es) = EndsBelow name (f ∷ es)

-- the first of them is above the name
abbrev pub StartsAbove : List ℕ → List Row → Type 0
StartsAbove name [] = Unit {0}
StartsAbove name (e ∷ es) = is_lt (name_cmp name e.0) ≡ true

-- between these rows stands the row of the name, or none where they are next to where it would stand
abbrev pub StandsAt : List ℕ → List Row → List Row → List Row → Type 0
StandsAt name prefix [] back = EndsBelow name prefix × StartsAbove name back
StandsAt name prefix (e ∷ []) back = name_cmp name e.0 ≡ Equal
StandsAt name prefix (e ∷ f ∷ es) back = ⊥

-- the rows before a name's place, the name's row or none, and the rows after
pub record IsSplit (name : List ℕ) (rows prefix here back : List Row) : Type 0 where
  pub all : rows ≡ prefix ++ (here ++ back)
  pub stands : StandsAt name prefix here back

-- the row of the name, if there is one, made way for these
pub record IsMade (name : List ℕ) (into old new : List Row) : Type 0 where
  pub prefix : List Row
  pub here : List Row
  pub back : List Row
  pub split : IsSplit name old prefix here back
  pub new_is : new ≡ prefix ++ (into ++ back)

-- the row has come to its name's place, where it is the only one of the name
abbrev pub IsPut : Row → List Row → List Row → Type 0
IsPut row old new = IsMade row.0 (row ∷ []) old new

-- the row of the name, if there is one, is gone
abbrev pub IsRemoved : List ℕ → List Row → List Row → Type 0
IsRemoved name old new = IsMade name [] old new

-- the row of the name, or none where there is none
pub record IsFound (name : List ℕ) (rows : List Row) (found : Option Row) : Type 0 where
  pub prefix : List Row
  pub back : List Row
  pub split : IsSplit name rows prefix (option_to_list found) back
