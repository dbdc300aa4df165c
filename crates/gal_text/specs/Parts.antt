-- What the parts of reading a neighbour file give: its header, its words, its end.
use Rattle.std.specs.{Io.KnownBytes.{Consumes, IsAtEnd}, Prelude.{◌≡◌, ◌≤◌, ℕ, ◌+◌, ◌⊎◌, true, false, List, ◌++◌, length, Option, Result, Ok, Err, Vec, ⊤}}
use Rattle.{std.specs.declared.alloc.Global.Global, byte_stream.specs.{Reading.CountsFrom, claim.{Reading.turn_limit, Words.{words, IsBrokenWord}}}, gal_text.specs.Holding.Holds}
use Rattle.{byte_stream.specs.declared.reader.ReadFault.ReadFault, desk_model.specs.{claim.Geography.ids_of, declared.block.BlockRow.BlockRow}}
use Rattle.gal_text.specs.claim.{GalFile.{HasHeader, ShowsFault, IsCutShort, failures_after_file}, Links.{AreComplete, IsLeastMissing, AreMutual, IsLeastOneWay, ArePairsOf}}
use Rattle.gal_text.specs.{claim.Units.{Progress, at_start, is_done, words_read, header_count, progress_after}, declared.fault.{GalFault.GalFault, TextFault.TextFault}}
use Rattle.gal_text.specs.declared.{fault.TextFault.TheVariants.EndsEarly, links.Unpaired.Unpaired, units.{Graph.Graph, Link.Link, UnitRefusal.UnitRefusal}}
use Rattle.byte_stream.specs.declared.reader.ReadFault.TheVariants as read
use Rattle.gal_text.specs.declared.fault.GalFault.TheVariants as fault
use Rattle.gal_text.specs.declared.links.Unpaired.TheVariants as unpaired
use Rattle.gal_text.specs.declared.units.UnitRefusal.TheVariants as refusal

-- how a refusal is told
abbrev pub refused : UnitRefusal → GalFault
refused (refusal.Fault f) = fault.Text f
refused refusal.Memory = fault.Memory

-- how a fault of the reader is told, where a part that is too long has this fault
abbrev pub read_told : TextFault → ReadFault → GalFault
read_told long read.TooLong = fault.Text long
read_told long read.Failed = fault.Read
read_told long read.TurnLimit = fault.TurnLimit

-- how links that give no pairs are told
abbrev pub pairs_told : Unpaired → GalFault
pairs_told (unpaired.OneWay a b) = fault.OneWay a b
pairs_told unpaired.Memory = fault.Memory

-- one more failure, where it is the source's
abbrev pub failures_after_graph : ℕ → Result Graph GalFault → ℕ
failures_after_graph before (Ok g) = before
failures_after_graph before (Err e) = failures_after_file before (Err e)

-- A call that ended so takes turns of the reader, each counted, up to the limit; where that is told it is reached. The source failed
-- where a failed read is told.
pub record TakesTurns (failures_before failures_after turns_before turns_after was now : ℕ) (result : Result Graph GalFault) : Type 0 where
  pub failures : failures_after ≡ failures_after_graph failures_before result
  pub counted : (first : ℕ) → CountsFrom first was turns_before → CountsFrom first now turns_after
  pub within : now ≤ turn_limit
  pub limit : result ≡ Err fault.TurnLimit → now ≡ turn_limit

-- what the header's line gives: the state before the first word
abbrev pub Begins : List BlockRow → List ℕ → Result Graph UnitRefusal → Type 0
Begins blocks line (Ok g) = (header_count line ≡ Ok g.left) × Holds blocks g (at_start g.left)
Begins blocks line (Err (refusal.Fault f)) = header_count line ≡ Err f
Begins blocks line (Err refusal.Memory) = ⊤

-- the words of the text are read as a progress, which the state holds
pub record AreUnits (blocks : List BlockRow) (count : ℕ) (text : List ℕ) (g : Graph) : Type 0 where
  pub progress : Progress
  pub said : words_read (ids_of blocks) (at_start count) 1 (words text) ≡ Ok progress
  pub holds : Holds blocks g progress

-- whatever follows the text, this is the first fault of its words; or they are all, and it is
abbrev pub ShowsInWords : List ℕ → ℕ → List ℕ → Option (List ℕ) → TextFault → Type 0
ShowsInWords ids count text left f =
    ((rest : List ℕ) → words_read ids (at_start count) 1 (words (text ++ rest)) ≡ Err f)
    ⊎ (IsAtEnd left × (words_read ids (at_start count) 1 (words text) ≡ Err f))

-- the text was cut in a word or between two: its whole words are good, and the word that is broken isn't too long
pub record AreCutWords (ids : List ℕ) (count : ℕ) (text : List ℕ) : Type 0 where
  pub whole : List (List ℕ)
  pub broken : List ℕ
  pub words_are : (more : List ℕ) → words (text ++ more) ≡ whole ++ words (broken ++ more)
  pub is_broken : IsBrokenWord broken
  pub progress : Progress
  pub good : words_read ids (at_start count) 1 whole ≡ Ok progress

-- what the words after the header's line give
abbrev pub ReadsWords : List BlockRow → ℕ → List ℕ → Option (List ℕ) → Result Graph GalFault → Type 0
ReadsWords blocks count text left (Ok g) = IsAtEnd left × AreUnits blocks count text g
ReadsWords blocks count text left (Err (fault.Text f)) = ShowsInWords (ids_of blocks) count text left f
ReadsWords blocks count text left (Err fault.Read) = AreCutWords (ids_of blocks) count text
ReadsWords blocks count text left (Err fault.TurnLimit) = AreCutWords (ids_of blocks) count text
ReadsWords blocks count text left (Err fault.Memory) = ⊤
ReadsWords blocks count text left (Err e) = ⊥

-- the header and the words of the text are read as a progress, which the state holds
pub record IsGraph (blocks : List BlockRow) (text : List ℕ) (g : Graph) : Type 0 where
  pub line : List ℕ
  pub rest : List ℕ
  pub header : HasHeader text line rest
  pub progress : Progress
  pub said : progress_after (ids_of blocks) line (words rest) ≡ Ok progress
  pub holds : Holds blocks g progress

-- what the header and the words give
abbrev pub ReadsGraph : List BlockRow → List ℕ → Option (List ℕ) → Result Graph GalFault → Type 0
ReadsGraph blocks text left (Ok g) = IsAtEnd left × IsGraph blocks text g
ReadsGraph blocks text left (Err (fault.Text f)) = ShowsFault (ids_of blocks) text left f
ReadsGraph blocks text left (Err fault.Read) = IsCutShort (ids_of blocks) text
ReadsGraph blocks text left (Err fault.TurnLimit) = IsCutShort (ids_of blocks) text
ReadsGraph blocks text left (Err fault.Memory) = ⊤
ReadsGraph blocks text left (Err e) = ⊥

-- what the links give
abbrev pub PairsUp : List Link → Result (Vec (ℕ × ℕ) Global) GalFault → Type 0
PairsUp links (Ok pairs) = AreMutual links × ArePairsOf links pairs.items
PairsUp links (Err (fault.OneWay a b)) = IsLeastOneWay links a b
PairsUp links (Err fault.Memory) = ⊤
PairsUp links (Err e) = ⊥

-- the units are all there, and each block that is listed lists back: these are the pairs
pub record ArePaired (ids : List ℕ) (p : Progress) (pairs : List (ℕ × ℕ)) : Type 0 where
  pub done : is_done p ≡ true
  pub complete : AreComplete ids p.units
  pub back : AreMutual p.links
  pub pairs_are : ArePairsOf p.links pairs

pub record Lacks (ids : List ℕ) (p : Progress) (id : ℕ) : Type 0 where
  pub done : is_done p ≡ true
  pub missing : IsLeastMissing ids p.units id

pub record ListsOneWay (ids : List ℕ) (p : Progress) (a b : ℕ) : Type 0 where
  pub done : is_done p ≡ true
  pub complete : AreComplete ids p.units
  pub one_way : IsLeastOneWay p.links a b

-- what the end of the text gives of the progress
abbrev pub Finishes : List ℕ → Progress → Result (Vec (ℕ × ℕ) Global) GalFault → Type 0
Finishes ids p (Ok pairs) = ArePaired ids p pairs.items
Finishes ids p (Err (fault.Text f)) = (f ≡ EndsEarly) × (is_done p ≡ false)
Finishes ids p (Err (fault.MissingUnit id)) = Lacks ids p id
Finishes ids p (Err (fault.OneWay a b)) = ListsOneWay ids p a b
Finishes ids p (Err fault.Memory) = ⊤
Finishes ids p (Err e) = ⊥

-- the bytes that came are these whole words, which the state holds, and the held bytes
pub record Stands (blocks : List BlockRow) (count : ℕ) (start : List ℕ)
    (old left : Option (List ℕ)) (held : List ℕ) (number : ℕ) (g : Graph) : Type 0 where
  pub came : List ℕ
  pub consumed : Consumes old left came
  pub whole : List (List ℕ)
  pub words_are : (more : List ℕ) → words ((start ++ came) ++ more) ≡ whole ++ words (held ++ more)
  pub progress : Progress
  pub said : words_read (ids_of blocks) (at_start count) 1 whole ≡ Ok progress
  pub holds : Holds blocks g progress
  pub counted : number ≡ length whole + 1
