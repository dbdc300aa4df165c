-- The people of a plan's districts and of the state, counted.
use Rattle.std.specs.Prelude.{◌≡◌, ℕ, List}
use Rattle.{audit_population.specs.claim.People.{populations_of, state_people}, desk_model.specs.declared.block.BlockRow.BlockRow}

pub record ArePeopleOf (blocks : List BlockRow) (plan : List ℕ) (n : ℕ) (populations : List ℕ) (total : ℕ) : Type 0 where
  pub districts : populations ≡ populations_of blocks plan n
  pub state : total ≡ state_people blocks
