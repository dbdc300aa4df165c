-- What no promise rests on, beside claim/Words.antt.
use Rattle.std.specs.{Io.KnownBytes.IsAtEnd, Prelude.{◌≡◌, ℕ, ◌+◌, ◌<◌, ◌≤◌, true, List, [], ◌∷◌, ◌++◌, length, Option, Result, Ok, Err}}
use Rattle.byte_stream.specs.{Reading.Reading, claim.{Counts.counted, Words.{AreSeparators, IsBrokenWord, NoSeparator, is_separator, word_limit, words}}}
use Rattle.byte_stream.specs.declared.reader.{AtHand.AtHand, ReadFault.ReadFault, WordStep.WordStep}
use Rattle.byte_stream.specs.declared.reader.AtHand.TheVariants as hand
use Rattle.byte_stream.specs.declared.reader.WordStep.TheVariants as step
use Rattle.byte_stream.specs.declared.reader.ReadFault.TheVariants as fault

pub record IsWord (word : List ℕ) : Type 0 where
  pub some : 0 < length word
  pub one : NoSeparator word

-- Whatever follows the text, this is its first word, and the other words are those after the text's rest.
pub record BeginsWithWord (text word rest : List ℕ) : Type 0 where
  pub gives : (more : List ℕ) → words (text ++ more) ≡ word ∷ words (rest ++ more)
  pub is : IsWord word
  pub short : length word ≤ word_limit

-- the text has this word alone
pub record IsOneWord (text word : List ℕ) : Type 0 where
  pub gives : words text ≡ word ∷ []
  pub is : IsWord word
  pub short : length word ≤ word_limit

-- whatever follows the text, its first word is too long
abbrev pub BeginsWithLongWord : List ℕ → Type 0
BeginsWithLongWord text = (more : List ℕ) → (word : List ℕ) × (others : List (List ℕ))
    × (words (text ++ more) ≡ word ∷ others) × (word_limit < length word)

-- What one step gives of the bytes that came, where the source has this left: a word, no word, or why there is none.
abbrev pub GivesWord : List ℕ → Option (List ℕ) → Result WordStep ReadFault → Reading → Type 0
GivesWord text left (Ok step.Word) new = BeginsWithWord text new.line new.held
GivesWord text left (Ok step.LastWord) new = IsAtEnd left × IsOneWord text new.line × (new.held ≡ [])
GivesWord text left (Ok step.End) new = IsAtEnd left × (words text ≡ []) × (new.held ≡ [])
GivesWord text left (Err fault.TooLong) new = BeginsWithLongWord text
GivesWord text left (Err fault.Failed) new = IsBrokenWord text
GivesWord text left (Err fault.TurnLimit) new = IsBrokenWord text

-- one more failure, where it is the source's
abbrev pub failures_after_word : ℕ → Result WordStep ReadFault → ℕ
failures_after_word before (Ok s) = before
failures_after_word before (Err fault.TooLong) = before
failures_after_word before (Err fault.Failed) = counted before 1
failures_after_word before (Err fault.TurnLimit) = before

-- one more word was given, or none
abbrev pub number_after_word : ℕ → Result WordStep ReadFault → ℕ
number_after_word before (Ok step.Word) = before + 1
number_after_word before (Ok step.LastWord) = before + 1
number_after_word before (Ok step.End) = before
number_after_word before (Err e) = before

-- one more word is taken, or none
abbrev pub number_taken : ℕ → AtHand → ℕ
number_taken before hand.Word = before + 1
number_taken before hand.Long = before
number_taken before hand.Part = before

-- separators, this word, one separator and the rest
pub record CutsWord (text word rest : List ℕ) : Type 0 where
  pub blanks : List ℕ
  pub separator : ℕ
  pub cut : text ≡ blanks ++ (word ++ separator ∷ rest)
  pub blank : AreSeparators blanks
  pub is : IsWord word
  pub short : length word ≤ word_limit
  pub ends : is_separator separator ≡ true

-- separators and then this part, which no separator ends and which isn't too long for a word
pub record CutsPart (text part : List ℕ) : Type 0 where
  pub blanks : List ℕ
  pub cut : text ≡ blanks ++ part
  pub blank : AreSeparators blanks
  pub one : NoSeparator part
  pub short : length part ≤ word_limit

-- separators, and then more bytes than a word may have
pub record CutsLong (text : List ℕ) : Type 0 where
  pub blanks : List ℕ
  pub part : List ℕ
  pub rest : List ℕ
  pub cut : text ≡ blanks ++ (part ++ rest)
  pub blank : AreSeparators blanks
  pub one : NoSeparator part
  pub long : word_limit < length part

-- what is taken out of the bytes that are held
abbrev pub TakesWord : List ℕ → AtHand → Reading → Type 0
TakesWord held hand.Word new = CutsWord held new.line new.held
TakesWord held hand.Long new = CutsLong held
TakesWord held hand.Part new = CutsPart held new.held

-- the part that is held at the text's end is its last word, where it has bytes
abbrev pub TakesLastWord : List ℕ → WordStep → List ℕ → Type 0
TakesLastWord held step.Word line = ⊥
TakesLastWord held step.LastWord line = (line ≡ held) × (0 < length held)
TakesLastWord held step.End line = held ≡ []
