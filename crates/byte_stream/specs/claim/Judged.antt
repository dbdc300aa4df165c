-- A text whose lines are judged one after the other.
use Rattle.std.specs.{Io.KnownBytes.IsAtEnd, Prelude.{◌≡◌, ℕ, ◌+◌, ◌⊎◌, List, [], ◌∷◌, ◌++◌, map, length, Option, Some, None}, Str.Lines.{lines, strip_carriage_return}}
use Rattle.byte_stream.specs.claim.Reading.{NoLineFeed, IsBroken}

-- the fault of a line, given the lines before it, or none
abbrev pub Judge : Type 0 → Type 0
Judge F = List (List ℕ) → List ℕ → Option F

-- no line has a fault, given the lines before it
pub record AreGood {F : Type 0} (judge : Judge F) (ls : List (List ℕ)) : Type 0 where
  pub each : (before : List (List ℕ)) (line : List ℕ) (after : List (List ℕ)) → ls ≡ before ++ line ∷ after → judge before line ≡ None

-- the first line with a fault is that of this number, and this is its fault
pub record IsFirstFault {F : Type 0} (judge : Judge F) (ls : List (List ℕ)) (number : ℕ) (fault : F) : Type 0 where
  pub before : List (List ℕ)
  pub line : List ℕ
  pub after : List (List ℕ)
  pub cut : ls ≡ before ++ line ∷ after
  pub counted : number ≡ length before + 1
  pub judged : judge before line ≡ Some fault
  pub good : AreGood judge before

-- Of the bytes that came: whatever follows them, this is the first fault; or they are the whole text, and it is.
abbrev pub ShowsFault : {F : Type 0} → Judge F → List ℕ → Option (List ℕ) → ℕ → F → Type 0
ShowsFault judge text left number fault =
    ((rest : List ℕ) → IsFirstFault judge (lines (text ++ rest)) number fault)
    ⊎ (IsAtEnd left × IsFirstFault judge (lines text) number fault)

-- the lines, each with a line feed after it
abbrev pub with_ends : List (List ℕ) → List ℕ
with_ends [] = []
with_ends (line ∷ more) = line ++ 10 ∷ with_ends more

abbrev pub AreCut : List (List ℕ) → Type 0
AreCut [] = Unit {0}
AreCut (line ∷ more) = NoLineFeed line × AreCut more

-- the text begins with these whole lines, and the rest follows them
pub record BeginsWithLines (text : List ℕ) (ls : List (List ℕ)) (rest : List ℕ) : Type 0 where
  pub raws : List (List ℕ)
  pub cut : text ≡ with_ends raws ++ rest
  pub each : AreCut raws
  pub stripped : ls ≡ map strip_carriage_return raws

-- The text was cut short: its whole lines are good, the rest is not too long for a line, and the number is one more than that of the line
-- ends.
pub record IsCutShort {F : Type 0} (judge : Judge F) (text : List ℕ) (number : ℕ) : Type 0 where
  pub whole : List (List ℕ)
  pub rest : List ℕ
  pub begins : BeginsWithLines text whole rest
  pub broken : IsBroken rest
  pub good : AreGood judge whole
  pub counted : number ≡ length whole + 1
