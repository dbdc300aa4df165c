-- What a neighbour file comes to: the pairs that it says of the blocks, and the geography of both.
use Rattle.std.specs.{Io.KnownBytes.Consumes, Prelude.{◌≡◌, ℕ, List, Result, Ok, Err, Vec}, declared.alloc.Global.Global}
use Rattle.desk_model.specs.{claim.{Geography.{GeographyModel, ids_of}, GeographyModels.AreTold}, declared.block.BlockRow.BlockRow}
use Rattle.{gal_text.specs.{claim.GalFile.{IsRead, failures_after_file}, declared.fault.GalFault.GalFault}, state_files.specs.claim.Opening.{File, Opening}}
use Rattle.state_files.specs.{claim.State.{IsAtLimit, Then, NoFile}, declared.fault.FileFault.{FileFault, TheVariants.{NoGal, Gal}}}
use Rattle.gal_text.specs.declared.fault.GalFault.TheVariants as gal

abbrev pub gal_outcome : Result (Vec (ℕ × ℕ) Global) GalFault → Result (Vec (ℕ × ℕ) Global) FileFault
gal_outcome (Ok pairs) = Ok pairs
gal_outcome (Err fault) = Err (Gal fault)

-- These bytes came from the neighbour file, and this is what they say of the blocks. Its reader failed once more exactly where
-- that is told, and the turn limit is told at the limit alone.
abbrev pub AreNeighboursOf : List BlockRow → (before after : File) → Result (Vec (ℕ × ℕ) Global) GalFault → Type 0
AreNeighboursOf blocks before after read = (text : List ℕ) × Consumes before.unread after.unread text × IsRead (ids_of blocks) text after.unread read
    × (after.failures ≡ failures_after_file before.failures read)
    × (read ≡ Err gal.TurnLimit → IsAtLimit before after)

abbrev pub ReadsNeighbours : List BlockRow → (before after : Opening) → Result (Vec (ℕ × ℕ) Global) FileFault → Type 0
ReadsNeighbours blocks (Err fault) after outcome = (after ≡ Err fault) × (outcome ≡ Err (NoGal fault))
ReadsNeighbours blocks (Ok before) (Err fault) outcome = ⊥
ReadsNeighbours blocks (Ok before) (Ok after) outcome = (read : Result (Vec (ℕ × ℕ) Global) GalFault)
    × AreNeighboursOf blocks before after read × (outcome ≡ gal_outcome read)

-- the geography of these blocks and pairs
abbrev pub MakesGeography : List BlockRow → List (ℕ × ℕ) → Result GeographyModel FileFault → Type 0
MakesGeography blocks pairs (Ok g) = (g.blocks ≡ blocks) × AreTold blocks pairs g.pairs
MakesGeography blocks pairs (Err fault) = fault ≡ Gal gal.Memory

abbrev pub ReadsWithNeighbours : List BlockRow → (before after : Opening) → Result GeographyModel FileFault → Type 0
ReadsWithNeighbours blocks before after = Then (ReadsNeighbours blocks before after) NoFile (λ pairs. MakesGeography blocks pairs.items)
