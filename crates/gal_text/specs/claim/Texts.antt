-- How a fault of a neighbour file is told: its code and what it carries.
use Rattle.std.specs.Prelude.{ℕ, List, ◌++◌, codes, decimal}
use Rattle.{desk_model.specs.claim.Padded.padded_decimal, gal_text.specs.declared.fault.{GalFault.GalFault, TextFault.TextFault}}
use Rattle.gal_text.specs.declared.fault.TextFault.TheVariants as word
use Rattle.gal_text.specs.declared.fault.GalFault.TheVariants as gal

-- a code with a block's 15 digits, or those of two
abbrev pub block_text : List ℕ → ℕ → List ℕ
block_text code id = code ++ codes " " ++ padded_decimal 15 id

abbrev pub blocks_text : List ℕ → ℕ → ℕ → List ℕ
blocks_text code first second = block_text code first ++ codes " " ++ padded_decimal 15 second

abbrev pub text_fault_text : TextFault → List ℕ
text_fault_text word.Header = codes "A1"
text_fault_text (word.Count at) = codes "A2 word " ++ decimal at
text_fault_text (word.UnknownBlock at) = codes "A3 word " ++ decimal at
text_fault_text (word.RepeatedUnit id) = block_text (codes "A4") id
text_fault_text (word.OwnNeighbour id) = block_text (codes "A6") id
text_fault_text (word.TooManyNeighbours id) = block_text (codes "A8") id
text_fault_text (word.TrailingWord at) = codes "A9 word " ++ decimal at
text_fault_text word.EndsEarly = codes "A10"
text_fault_text (word.RepeatedNeighbour first second) = blocks_text (codes "A11") first second

abbrev pub gal_fault_text : GalFault → List ℕ
gal_fault_text (gal.Text fault) = text_fault_text fault
gal_fault_text (gal.MissingUnit id) = block_text (codes "A5") id
gal_fault_text (gal.OneWay first second) = blocks_text (codes "A7") first second
gal_fault_text gal.Read = codes "A12"
gal_fault_text gal.TurnLimit = codes "A13"
gal_fault_text gal.Memory = codes "Memory"
