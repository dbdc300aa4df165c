-- The files of a state, read one after the other, and the geography that they say.
use Rattle.std.specs.Prelude.{◌≡◌, ℕ, List, Option, Result}
use Rattle.{desk_model.specs.claim.Geography.GeographyModel, state_files.specs.claim.{GeographyModels.ReadsWithNeighbours, Opening.{Opening, opening_of, Census, census_of}}}
use Rattle.{state_files.specs.{claim.State.{Then, ReadsState}, declared.fault.FileFault.FileFault}, store_command.specs.declared.load.StateFiles.StateFiles}

-- the openings of the files, in the order in which they are judged
pub record Openings : Type 0 where
  pub census : Census
  pub neighbours : Opening

abbrev pub openings_of : {R : Type 0} → (R → Option (List ℕ)) → (R → ℕ) → (R → ℕ) → StateFiles R → Openings
openings_of unread turns failures files = record {
  census = census_of unread turns failures files.census;
  neighbours = opening_of unread turns failures files.gal;
}

-- the files one after the other, and the geography that they say
abbrev pub ReadsGeography : (before after : Openings) → Result GeographyModel FileFault → Type 0
ReadsGeography before after =
    Then (ReadsState before.census after.census) (after.neighbours ≡ before.neighbours)
    (λ rows. ReadsWithNeighbours rows.items before.neighbours after.neighbours)
