-- What no promise rests on, beside claim/Reading.antt.
use Rattle.std.specs.{Io.KnownBytes.{Consumes, IsAtEnd}, Prelude.{◌≡◌, ℕ, ◌+◌, ◌<◌, List, [], ◌++◌, length, Option, Result, Ok, Err}, Str.Lines.strip_carriage_return}
use Rattle.byte_stream.specs.{claim.{Counts.counted, Reading.{BeginsWithLine, IsBroken, NoLineFeed, line_limit}}, declared.reader.{ReadFault.ReadFault, Step.Step}}
use Rattle.byte_stream.specs.declared.source.Turn.{Turn}
use Rattle.byte_stream.specs.declared.source.Turn.TheVariants as turn
use Rattle.byte_stream.specs.declared.reader.Step.TheVariants as step
use Rattle.byte_stream.specs.declared.reader.ReadFault.TheVariants as fault

-- the line at hand; the bytes that came and belong to no line yet; how many lines were given; how many turns were made
pub record Reading : Type 0 where
  pub line : List ℕ
  pub held : List ℕ
  pub number : ℕ
  pub turns : ℕ

-- The bytes pass the limit. A carriage return as the last of them may belong to the line's end.
abbrev pub IsLong : List ℕ → Type 0
IsLong bytes = line_limit < length (strip_carriage_return bytes)

-- the text is this line, which lacks its end
pub record IsLastLine (text line : List ℕ) : Type 0 where
  pub is : line ≡ text
  pub some : 0 < length text
  pub one : NoLineFeed text

-- the text begins with a line that is too long
pub record IsTooLong (text : List ℕ) : Type 0 where
  pub one : NoLineFeed text
  pub long : IsLong text

-- What one step gives of the bytes that came, where the reader has this left: a line, no line, or why there is none.
abbrev pub Gives : List ℕ → Option (List ℕ) → Result Step ReadFault → Reading → Type 0
Gives text left (Ok step.Line) new = BeginsWithLine text new.line new.held
Gives text left (Ok step.LastLine) new = IsAtEnd left × IsLastLine text new.line
Gives text left (Ok step.End) new = IsAtEnd left × (text ≡ [])
Gives text left (Err fault.TooLong) new = IsTooLong text
Gives text left (Err fault.Failed) new = IsBroken text
Gives text left (Err fault.TurnLimit) new = IsBroken text

-- one more line was given, or none
abbrev pub number_after : ℕ → Result Step ReadFault → ℕ
number_after before (Ok step.Line) = before + 1
number_after before (Ok step.LastLine) = before + 1
number_after before (Ok step.End) = before
number_after before (Err e) = before

-- one more failure, where it is the reader's
abbrev pub failures_after_step : ℕ → Result Step ReadFault → ℕ
failures_after_step before (Ok s) = before
failures_after_step before (Err fault.TooLong) = before
failures_after_step before (Err fault.Failed) = counted before 1
failures_after_step before (Err fault.TurnLimit) = before

-- the source's count of turns goes with the reader's: as it stood at `first`, and then one more for each turn
abbrev pub CountsFrom : ℕ → ℕ → ℕ → Type 0
CountsFrom first turns source = source ≡ counted first turns

-- what a turn added to the bytes that were held
abbrev pub Fills : Option (List ℕ) → Option (List ℕ) → List ℕ → Turn → List ℕ → Type 0
Fills before after old (turn.Read n) new = (piece : List ℕ) × Consumes before after piece
    × (new ≡ old ++ piece) × (n ≡ 0 → IsAtEnd after × (piece ≡ []))
Fills before after old turn.Interrupted new = Consumes before after [] × (new ≡ old)
Fills before after old turn.Failed new = Consumes before after [] × (new ≡ old)
