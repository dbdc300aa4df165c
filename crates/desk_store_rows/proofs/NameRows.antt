-- Lemmas on the definitions of NameRows.
use Rattle.{std.{specs.Prelude.Contains, proofs.lemmas.{Bool.{cases_lt, lt-ltb, le-ltb}, List.Elements.{All-take, All-drop}}}, desk_model.specs.claim.Room.rows_for}
use Rattle.std.proofs.Common.{rules, ◌≡◌, ◌<◌, ◌≤◌, ◌*◌, ◌^◌, ℕ, cond, List, ◌∷◌, length, take, drop, All, Some, None, sym, ap, ◌∙◌, inl, inr, arith, ◌+◌, ◌-◌, ◌/◌, ◌%◌, min, get_or, length-take, length-drop, get_or-take, get_or-drop}
use Rattle.desk_store_rows.specs.{NameRows.{IsFreeRevision, name_row, name_rows}, Rows.SameTag, claim.{Keys.{key_of, part}, Lists.{chunks_bytes, AreChunks}, Puts.put_rows}}
use Rattle.desk_store_rows.{specs.claim.{RevisionRows.{NamesChunks, HasRevision}, Rows.{row_in, part_row, KeyMap}, Tidy.IsNamedBy}, proofs.Frames.{other_tag, chunk_stays}}
use Rattle.desk_store_rows.proofs.{OneGeography.{value_is, no_value}, Puts.{told_keep, told_are}, RowLaws.keys_differ}

-- ---- keys
one_part : (plan revision i j : ℕ) → plan < 2 ^ 64 → revision < 2 ^ 32 → i < 2 ^ 8 → j < 2 ^ 8 → key_of (part plan revision i) ≡ key_of (part plan revision j) → i ≡ j
one_part plan revision i j fits small few less same = search (rules, keys_differ)

other_part : (plan revision other later i j : ℕ) → plan < 2 ^ 64 → revision < 2 ^ 32 → other < 2 ^ 64 → later < 2 ^ 32 → i < 2 ^ 8 → j < 2 ^ 8 → (other ≡ plan → later ≡ revision → ⊥) → key_of (part other later i) ≡ key_of (part plan revision j) → ⊥
other_part plan revision other later i j fits small other_fits later_small few less apart same = search (rules, keys_differ)

pub few_names : (n i : ℕ) → n ≤ 128 * 2 ^ 8 → i < rows_for 128 n → i < 2 ^ 8
few_names n i few less = omega arith

-- ---- once its rows are put under a free place, the revision names the chunks
pub parts_put : (m : KeyMap) (plan revision : ℕ) (numbers : List ℕ) → plan < 2 ^ 64 → revision < 2 ^ 32 → length numbers ≤ 128 * 2 ^ 8 → IsFreeRevision m plan revision → (index : ℕ) → index < 2 ^ 8 → row_in (put_rows m (name_rows plan revision numbers)) (part plan revision index) ≡ part_row 128 chunks_bytes numbers index
parts_put m plan revision numbers fits small few free index less = elim (cases_lt index (rows_for 128 (length numbers))) [
  | inl within ↦ told_are m (name_row plan revision numbers) (rows_for 128 (length numbers)) index
      (λ i j one other same. one_part plan revision i j fits small (few_names (length numbers) i few one) (few_names (length numbers) j few other) same) within
      ∙ sym (ap (λ b. cond b (Some (chunks_bytes (take 128 (drop (128 * index) numbers)))) None) (lt-ltb (128 * index) (length numbers) (omega arith)))
  | inr beyond ↦ told_keep m (name_row plan revision numbers) (rows_for 128 (length numbers)) (key_of (part plan revision index))
      (λ k among same. let one : index ≡ k = one_part plan revision index k fits small less (few_names (length numbers) k few among) same in omega arith)
      ∙ free index less
      ∙ sym (ap (λ b. cond b (Some (chunks_bytes (take 128 (drop (128 * index) numbers)))) None) (le-ltb (128 * index) (length numbers) (omega arith)))
]

pub names_put : (m : KeyMap) (plan revision : ℕ) (numbers : List ℕ) → plan < 2 ^ 64 → revision < 2 ^ 32 → length numbers ≤ 128 * 2 ^ 8 → All (λ n. n < 2 ^ 64) numbers → IsFreeRevision m plan revision → NamesChunks (put_rows m (name_rows plan revision numbers)) plan revision numbers
names_put m plan revision numbers fits small few each free = record { few = few; each = each; parts = parts_put m plan revision numbers fits small few free }

-- what another revision names stays, of this plan or of another
pub names_kept : (m : KeyMap) (plan revision : ℕ) (numbers : List ℕ) (other later : ℕ) (others : List ℕ) → plan < 2 ^ 64 → revision < 2 ^ 32 → length numbers ≤ 128 * 2 ^ 8 → other < 2 ^ 64 → later < 2 ^ 32 → (other ≡ plan → later ≡ revision → ⊥) → NamesChunks m other later others → NamesChunks (put_rows m (name_rows plan revision numbers)) other later others
names_kept m plan revision numbers other later others fits small few other_fits later_small apart names = record {
  few = names.few;
  each = names.each;
  parts = λ index less. search (arith, told_keep, other_part, few_names, names.parts);
}

-- ---- the rows of every other tag stay
pub names_keep_tag : (m : KeyMap) (plan revision : ℕ) (numbers : List ℕ) (tag : ℕ) → (tag ≡ 82 → ⊥) → SameTag tag m (put_rows m (name_rows plan revision numbers))
names_keep_tag m plan revision numbers tag apart rest = told_keep m (name_row plan revision numbers) (rows_for 128 (length numbers)) (tag ∷ rest) (λ k less. other_tag tag 82 rest _ apart)

-- so a whole revision stays where another one is named
pub revision_kept : (m : KeyMap) (plan revision : ℕ) (numbers : List ℕ) (other later : ℕ) (counties : List (List ℕ)) → plan < 2 ^ 64 → revision < 2 ^ 32 → length numbers ≤ 128 * 2 ^ 8 → other < 2 ^ 64 → later < 2 ^ 32 → (other ≡ plan → later ≡ revision → ⊥) → HasRevision m other later counties → HasRevision (put_rows m (name_rows plan revision numbers)) other later counties
revision_kept m plan revision numbers other later counties fits small few other_fits later_small apart has = record {
  numbers = has.numbers;
  names = names_kept m plan revision numbers other later has.numbers fits small few other_fits later_small apart has.names;
  count = has.count;
  chunks = λ county within. chunk_stays m (put_rows m (name_rows plan revision numbers)) _ _ (names_keep_tag m plan revision numbers 107 (λ same. absurd (omega arith))) (has.chunks county within);
}

-- ---- The numbers of a list, and those of its parts of 128.
-- the part at a place
abbrev pub part_at : List ℕ → ℕ → List ℕ
part_at numbers index = take 128 (drop (128 * index) numbers)

pub part_there : (numbers : List ℕ) (index : ℕ) → 128 * index < length numbers → part_row 128 chunks_bytes numbers index ≡ Some (chunks_bytes (part_at numbers index))
part_there numbers index less = ap (λ b. cond b (Some (chunks_bytes (part_at numbers index))) None) (lt-ltb (128 * index) (length numbers) less)

-- a row of a part is within the list
pub part_within : (numbers : List ℕ) (index : ℕ) (value : List ℕ) → part_row 128 chunks_bytes numbers index ≡ Some value → 128 * index < length numbers
part_within numbers index value there = search (arith, cases_lt, no_value, le-ltb)

pub part_says : (numbers : List ℕ) (index : ℕ) (value : List ℕ) → part_row 128 chunks_bytes numbers index ≡ Some value → value ≡ chunks_bytes (part_at numbers index)
part_says numbers index value there = value_is value (chunks_bytes (part_at numbers index)) (sym there ∙ part_there numbers index (part_within numbers index value there))

length_part : (numbers : List ℕ) (index : ℕ) → length (part_at numbers index) ≡ min 128 (length numbers - 128 * index)
length_part numbers index = length-take 128 (drop (128 * index) numbers) ∙ ap (min 128) (length-drop (128 * index) numbers)

pub part_chunks : (numbers : List ℕ) (index : ℕ) → All (λ n. n < 2 ^ 64) numbers → 128 * index < length numbers → AreChunks (part_at numbers index)
part_chunks numbers index each less = search (rules, length_part, All-take, All-drop)

-- a number of a part is one of the list's
pub part_among : (numbers : List ℕ) (index number : ℕ) → 128 * index < length numbers → Contains (part_at numbers index) number → Contains numbers number
part_among numbers index number less (k, within, is) =
    let count = length_part numbers index in
    (128 * index + k, omega arith, sym (get_or-take 128 (drop (128 * index) numbers) k number (omega arith) ∙ get_or-drop (128 * index) numbers k number) ∙ is)

-- and each of the list's is one of a part's
pub among_part : (numbers : List ℕ) (number : ℕ) → length numbers ≤ 128 * 2 ^ 8 → Contains numbers number
    → (index : ℕ) × (index < 2 ^ 8) × (128 * index < length numbers) × Contains (part_at numbers index) number
among_part numbers number few (k, within, is) =
    let index = k / 128 in
    let place = k % 128 in
    let count = length_part numbers index in
    let whole : 128 * index + place ≡ k = omega arith in
    let small : place < 128 = omega arith in
    let here : get_or (part_at numbers index) place number ≡ get_or numbers k number =
    get_or-take 128 (drop (128 * index) numbers) place number small ∙ get_or-drop (128 * index) numbers place number ∙ ap (λ j. get_or numbers j number) whole in
    (index, omega arith, omega arith, (place, omega arith, here ∙ is))

-- the numbers of a revision are named by its parts
pub numbers_named : (m : KeyMap) (plan revision : ℕ) (numbers : List ℕ) → plan < 2 ^ 64 → revision < 2 ^ 32 → NamesChunks m plan revision numbers → (number : ℕ) → Contains numbers number → IsNamedBy m plan number
numbers_named m plan revision numbers plan_fits revision_fits names number among = search (rules, among_part numbers number names.few among, part_chunks, part_there)
