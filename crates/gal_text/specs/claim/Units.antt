-- The words of a neighbour file, one after the other: the number of units, and for each unit its block, its number of neighbours, and their
-- blocks.
use Rattle.std.specs.{List.list_any, Prelude.{ℕ, ◌+◌, ◌-◌, ◌==◌, Bool, true, false, ◌&&◌, nat_lt, if◌then◌else◌, List, [], ◌∷◌, ◌++◌, length, Option, Some, None, Result, Ok, Err}}
use Rattle.{byte_stream.specs.claim.{Reading.line_limit, Words.words}, field_text.specs.claim.Digits.{number_of, number_of_digits}, gal_text.specs.declared.units.Awaited.Awaited}
use Rattle.gal_text.specs.declared.{fault.TextFault.TextFault, units.Link.Link}
use Rattle.gal_text.specs.declared.fault.TextFault.TheVariants.{Header, Count, UnknownBlock, RepeatedUnit, OwnNeighbour, TooManyNeighbours, TrailingWord, EndsEarly, RepeatedNeighbour}
use Rattle.gal_text.specs.declared.units.Awaited.TheVariants as awaited

-- a unit has this many neighbours at most
abbrev pub neighbour_limit : ℕ
neighbour_limit = 4096

-- How far the words have come: the units that are left, what the next word is to be, the units so far, and what they list, both in the
-- order of the text.
pub record Progress : Type 0 where
  pub left : ℕ
  pub next : Awaited
  pub units : List ℕ
  pub links : List Link

abbrev pub at_start : ℕ → Progress
at_start count = record { left = count; next = awaited.Block; units = []; links = [] }

abbrev pub has_number : List ℕ → ℕ → Bool
has_number numbers id = list_any (λ x. x == id) numbers

abbrev pub link_of : ℕ → ℕ → Link
link_of from to = record { from = from; to = to }

-- the unit lists the block
abbrev pub lists : List Link → ℕ → ℕ → Bool
lists links unit other = list_any (λ l. (l.from == unit) && (l.to == other)) links

abbrev pub known : List ℕ → Option ℕ → Option ℕ
known ids None = None
known ids (Some id) = if has_number ids id then Some id else None

-- the block that a word names
abbrev pub block_of : List ℕ → List ℕ → Option ℕ
block_of ids word = known ids (number_of_digits 15 word)

-- so many neighbours of the unit are left
abbrev pub neighbours_left : ℕ → ℕ → Awaited
neighbours_left unit left = if left == 0 then awaited.Block else awaited.Neighbour unit left

abbrev pub unit_read : Progress → ℕ → Option ℕ → Result Progress TextFault
unit_read p at None = Err (UnknownBlock at)
unit_read p at (Some id) =
    if has_number p.units id then Err (RepeatedUnit id)
    else Ok (record { left = p.left - 1; next = awaited.Count id; units = p.units ++ id ∷ []; links = p.links })

abbrev pub count_read : Progress → ℕ → ℕ → Option ℕ → Result Progress TextFault
count_read p unit at None = Err (Count at)
count_read p unit at (Some n) =
    if nat_lt neighbour_limit n then Err (TooManyNeighbours unit)
    else Ok (record { left = p.left; next = neighbours_left unit n; units = p.units; links = p.links })

abbrev pub neighbour_read : Progress → ℕ → ℕ → ℕ → Option ℕ → Result Progress TextFault
neighbour_read p unit left at None = Err (UnknownBlock at)
neighbour_read p unit left at (Some other) =
    if other == unit then Err (OwnNeighbour unit)
    else if lists p.links unit other then Err (RepeatedNeighbour unit other)
    else Ok (record { left = p.left; next = neighbours_left unit (left - 1); units = p.units; links = p.links ++ link_of unit other ∷ [] })

-- one more word, of this number, by what it is to be
abbrev pub word_awaited : List ℕ → Progress → ℕ → List ℕ → Awaited → Result Progress TextFault
word_awaited ids p at word awaited.Block = if p.left == 0 then Err (TrailingWord at) else unit_read p at (block_of ids word)
word_awaited ids p at word (awaited.Count unit) = count_read p unit at (number_of 10 word)
word_awaited ids p at word (awaited.Neighbour unit left) = neighbour_read p unit left at (block_of ids word)

abbrev pub word_read : List ℕ → Progress → ℕ → List ℕ → Result Progress TextFault
word_read ids p at word = word_awaited ids p at word p.next

-- what comes after it goes on from its progress
abbrev pub go_on : Result Progress TextFault → (Progress → Result Progress TextFault) → Result Progress TextFault
go_on (Ok p) next = next p
go_on (Err f) next = Err f

-- the words from number `at` on: the progress, or the first fault
abbrev pub words_read : List ℕ → Progress → ℕ → List (List ℕ) → Result Progress TextFault
words_read ids p at [] = Ok p
words_read ids p at (w ∷ more) = go_on (word_read ids p at w) (λ next. words_read ids next (at + 1) more)

abbrev pub awaits_block : Awaited → Bool
awaits_block awaited.Block = true
awaits_block (awaited.Count unit) = false
awaits_block (awaited.Neighbour unit left) = false

-- no word is wanting
abbrev pub is_done : Progress → Bool
is_done p = (p.left == 0) && awaits_block p.next

abbrev pub at_end : Progress → Result Progress TextFault
at_end p = if is_done p then Ok p else Err EndsEarly

abbrev pub count_of_word : Option ℕ → Result ℕ TextFault
count_of_word None = Err (Count 0)
count_of_word (Some n) = Ok n

-- the number of units: the only word, or the second of four or more
abbrev pub count_of_words : List (List ℕ) → Result ℕ TextFault
count_of_words [] = Err Header
count_of_words (w ∷ []) = count_of_word (number_of 10 w)
count_of_words (a ∷ w ∷ []) = Err Header
count_of_words (a ∷ w ∷ b ∷ []) = Err Header
count_of_words (a ∷ w ∷ b ∷ c ∷ more) = count_of_word (number_of 10 w)

abbrev pub header_count : List ℕ → Result ℕ TextFault
header_count line = if nat_lt line_limit (length line) then Err Header else count_of_words (words line)

abbrev pub from_count : Result ℕ TextFault → (ℕ → Result Progress TextFault) → Result Progress TextFault
from_count (Ok n) go = go n
from_count (Err f) go = Err f

-- the words that came after a header's line, without judging whether more are wanting
abbrev pub progress_after : List ℕ → List ℕ → List (List ℕ) → Result Progress TextFault
progress_after ids line ws = from_count (header_count line) (λ n. words_read ids (at_start n) 1 ws)

-- a header's line and all words after it
abbrev pub units_read : List ℕ → List ℕ → List (List ℕ) → Result Progress TextFault
units_read ids line ws = go_on (progress_after ids line ws) at_end
