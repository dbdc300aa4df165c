-- A neighbour file as a whole: which texts are neighbour files, and what they say.
use Rattle.std.specs.{Io.KnownBytes.IsAtEnd, Prelude.{◌≡◌, ℕ, ◌+◌, ◌⊎◌, List, [], ◌++◌, Option, Result, Ok, Err, Vec, ⊤}, declared.alloc.Global.Global}
use Rattle.{byte_stream.specs.claim.{Counts.counted, Reading.{NoLineFeed, BeginsWithLine, IsBroken}, Words.{words, IsBrokenWord}}, gal_text.specs.declared.fault.GalFault.GalFault}
use Rattle.gal_text.specs.claim.{Links.{AreComplete, IsLeastMissing, AreMutual, IsLeastOneWay, ArePairsOf}, Units.{Progress, progress_after, units_read}}
use Rattle.gal_text.specs.declared.fault.TextFault.{TextFault}
use Rattle.gal_text.specs.declared.fault.GalFault.TheVariants as fault

-- the text is one line
pub record IsOneLine (text line : List ℕ) : Type 0 where
  pub is : line ≡ text
  pub one : NoLineFeed text

-- the header's line, and the text after it
abbrev pub HasHeader : List ℕ → List ℕ → List ℕ → Type 0
HasHeader text line rest = BeginsWithLine text line rest ⊎ (IsOneLine text line × (rest ≡ []))

-- what the words of the text say
pub record Says (ids text : List ℕ) (outcome : Result Progress TextFault) : Type 0 where
  pub line : List ℕ
  pub rest : List ℕ
  pub header : HasHeader text line rest
  pub says : outcome ≡ units_read ids line (words rest)

-- the text is a neighbour file, and these are its pairs: every block is one unit, and what is listed lists back
pub record ArePairs (ids text : List ℕ) (pairs : List (ℕ × ℕ)) : Type 0 where
  pub progress : Progress
  pub says : Says ids text (Ok progress)
  pub complete : AreComplete ids progress.units
  pub back : AreMutual progress.links
  pub pairs_are : ArePairsOf progress.links pairs

-- the text is good to its end, but this is the least block that is no unit
pub record LacksUnit (ids text : List ℕ) (id : ℕ) : Type 0 where
  pub progress : Progress
  pub says : Says ids text (Ok progress)
  pub missing : IsLeastMissing ids progress.units id

-- every block is a unit, but the first lists the second one way
pub record HasOneWay (ids text : List ℕ) (a b : ℕ) : Type 0 where
  pub progress : Progress
  pub says : Says ids text (Ok progress)
  pub complete : AreComplete ids progress.units
  pub one_way : IsLeastOneWay progress.links a b

-- Of the bytes that came: whatever follows them, this is the first fault; or they are the whole text, and it is.
abbrev pub ShowsFault : List ℕ → List ℕ → Option (List ℕ) → TextFault → Type 0
ShowsFault ids text left f = ((rest : List ℕ) → Says ids (text ++ rest) (Err f)) ⊎ (IsAtEnd left × Says ids text (Err f))

-- The text was cut after its header's line: its whole words are good, and the word that is broken isn't too long.
pub record IsCutInWords (ids text : List ℕ) : Type 0 where
  pub line : List ℕ
  pub rest : List ℕ
  pub header : BeginsWithLine text line rest
  pub whole : List (List ℕ)
  pub broken : List ℕ
  pub words_are : (more : List ℕ) → words (rest ++ more) ≡ whole ++ words (broken ++ more)
  pub is_broken : IsBrokenWord broken
  pub progress : Progress
  pub good : progress_after ids line whole ≡ Ok progress

-- the text was cut short: within its header's line, which isn't too long, or after it
abbrev pub IsCutShort : List ℕ → List ℕ → Type 0
IsCutShort ids text = IsBroken text ⊎ IsCutInWords ids text

-- what the bytes that came are, where the reader has this left
abbrev pub IsRead : List ℕ → List ℕ → Option (List ℕ) → Result (Vec (ℕ × ℕ) Global) GalFault → Type 0
IsRead ids text left (Ok pairs) = IsAtEnd left × ArePairs ids text pairs.items
IsRead ids text left (Err (fault.Text f)) = ShowsFault ids text left f
IsRead ids text left (Err (fault.MissingUnit id)) = IsAtEnd left × LacksUnit ids text id
IsRead ids text left (Err (fault.OneWay a b)) = IsAtEnd left × HasOneWay ids text a b
IsRead ids text left (Err fault.Read) = IsCutShort ids text
IsRead ids text left (Err fault.TurnLimit) = IsCutShort ids text
IsRead ids text left (Err fault.Memory) = ⊤

-- one more failure, where it is the source's
abbrev pub failures_after_file : ℕ → Result (Vec (ℕ × ℕ) Global) GalFault → ℕ
failures_after_file before (Ok pairs) = before
failures_after_file before (Err (fault.Text f)) = before
failures_after_file before (Err (fault.MissingUnit id)) = before
failures_after_file before (Err (fault.OneWay a b)) = before
failures_after_file before (Err fault.Read) = counted before 1
failures_after_file before (Err fault.TurnLimit) = before
failures_after_file before (Err fault.Memory) = before
