-- What callers need of words.
use Rattle.std.{specs.{List.{slice_split, onto_first, filter}, Prelude.{◌≡◌, ℕ, Bool, true, false, cond, List, [], ◌∷◌, ◌++◌, refl}}, proofs.Common.{ap, ◌∙◌, arith}}
use Rattle.std.proofs.lemmas.List.{Elements.{All-head, All-tail}, Splits.{slice_split-cons_yes, slice_split-cons_no, slice_split_none, slice_split_at}}
use Rattle.byte_stream.specs.{Words.IsWord, claim.Words.{is_separator, words, has_bytes, AreSeparators, NoSeparator}}

pub words-none : words [] ≡ []
unfolding words
words-none = refl

pub words-separator : (separator : ℕ) (rest : List ℕ) → is_separator separator ≡ true → words (separator ∷ rest) ≡ words rest
unfolding words
words-separator separator rest is = ap (filter has_bytes) (slice_split-cons_yes is_separator separator rest is)

-- separators at a text's start make no word
pub words-past : (blanks rest : List ℕ) → AreSeparators blanks → words (blanks ++ rest) ≡ words rest
words-past [] rest blank = refl
words-past (b ∷ more) rest blank =
    words-separator b (more ++ rest) (All-head (λ x. is_separator x ≡ true) b more blank)
    ∙ words-past more rest (All-tail (λ x. is_separator x ≡ true) b more blank)

-- a word ends at the first separator after it
pub words-word : (word : List ℕ) (separator : ℕ) (rest : List ℕ) → IsWord word → is_separator separator ≡ true → words (word ++ separator ∷ rest) ≡ word ∷ words rest
unfolding words
words-word [] separator rest is ends = absurd (omega (arith, is.some))
words-word (b ∷ more) separator rest is ends = ap (filter has_bytes) (slice_split_at is_separator (b ∷ more) separator rest is.one ends)

pub words-last : (word : List ℕ) → IsWord word → words word ≡ word ∷ []
unfolding words
words-last [] is = absurd (omega (arith, is.some))
words-last (b ∷ more) is = ap (filter has_bytes) (slice_split_none is_separator (b ∷ more) is.one)

first_part_of : (b : Bool) (x : ℕ) (first : List ℕ) (parts others : List (List ℕ)) → parts ≡ first ∷ others
    → (f : List ℕ) × (o : List (List ℕ)) × (cond b ([] ∷ parts) (onto_first x parts) ≡ f ∷ o)
first_part_of true x first parts others same = ([], parts, refl)
first_part_of false x first parts others same = (x ∷ first, others, ap (onto_first x) same)

first_part : (text : List ℕ) → (first : List ℕ) × (others : List (List ℕ)) × (slice_split is_separator text ≡ first ∷ others)
first_part [] = ([], [], refl)
first_part (x ∷ xs) = let more = first_part xs in first_part_of (is_separator x) x more.0 (slice_split is_separator xs) more.1 more.2

part_goes_on : (part rest : List ℕ) → NoSeparator part → (first : List ℕ) × (others : List (List ℕ)) × (slice_split is_separator (part ++ rest) ≡ (part ++ first) ∷ others)
part_goes_on [] rest one = first_part rest
part_goes_on (x ∷ xs) rest one =
    let more = part_goes_on xs rest (All-tail (λ b. is_separator b ≡ false) x xs one) in
    (more.0, more.1, slice_split-cons_no is_separator x (xs ++ rest) (All-head (λ b. is_separator b ≡ false) x xs one) ∙ ap (onto_first x) more.2)

-- a word goes on as far as there is no separator
pub words-goes_on : (word rest : List ℕ) → IsWord word → (more : List ℕ) × (others : List (List ℕ)) × (words (word ++ rest) ≡ (word ++ more) ∷ others)
unfolding words
words-goes_on [] rest is = absurd (omega (arith, is.some))
words-goes_on (b ∷ bs) rest is = let parts = part_goes_on (b ∷ bs) rest is.one in (parts.0, filter has_bytes parts.1, ap (filter has_bytes) parts.2)
