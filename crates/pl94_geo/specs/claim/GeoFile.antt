-- The geographic header as a whole: which texts are headers, and what they say.
use Rattle.std.specs.{Io.KnownBytes.IsAtEnd, Prelude.{◌≡◌, ℕ, ◌<◌, List, [], length, Option, Result, Ok, Err, ⊤}, Str.Lines.lines}
use Rattle.{byte_stream.specs.claim.{Counts.counted, Judged.{AreGood, ShowsFault, IsCutShort}}, pl94_geo.specs.claim.Judging.{entries, blocks_of, state_record_of, ids_of, judge}}
use Rattle.pl94_geo.specs.declared.geo.{GeoFault.GeoFault, GeoRows.GeoRows}
use Rattle.pl94_geo.specs.declared.geo.GeoFault.TheVariants as fault

-- the lines are a header, and these are its blocks and its state record
pub record IsHeader (ls : List (List ℕ)) (rows : GeoRows) : Type 0 where
  pub good : AreGood judge ls
  pub some : 0 < length (ids_of (entries ls))
  pub blocks : rows.blocks.items ≡ blocks_of (entries ls)
  pub state_record : rows.state_record ≡ state_record_of (entries ls)

-- the lines are good and none of them is a block
pub record HasNoBlock (ls : List (List ℕ)) (number : ℕ) : Type 0 where
  pub good : AreGood judge ls
  pub none : ids_of (entries ls) ≡ []
  pub counted : number ≡ length ls

-- what the bytes that came are, where the reader has this left
abbrev pub IsRead : List ℕ → Option (List ℕ) → Result GeoRows GeoFault → Type 0
IsRead text left (Ok rows) = IsAtEnd left × IsHeader (lines text) rows
IsRead text left (Err (fault.Line f number)) = ShowsFault judge text left number f
IsRead text left (Err (fault.Read number)) = IsCutShort judge text number
IsRead text left (Err (fault.NoBlock number)) = IsAtEnd left × HasNoBlock (lines text) number
IsRead text left (Err (fault.TurnLimit number)) = IsCutShort judge text number
IsRead text left (Err fault.Memory) = ⊤

-- one more failure, where it is the source's
abbrev pub failures_after_file : ℕ → Result GeoRows GeoFault → ℕ
failures_after_file before (Ok rows) = before
failures_after_file before (Err (fault.Line f number)) = before
failures_after_file before (Err (fault.Read number)) = counted before 1
failures_after_file before (Err (fault.NoBlock number)) = before
failures_after_file before (Err (fault.TurnLimit number)) = before
failures_after_file before (Err fault.Memory) = before
