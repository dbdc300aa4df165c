-- Lists that have the same rows are one list, and a store has one geography at most.
use Rattle.std.{specs.{Int.from_be_bytes, List.slice_get, Prelude.{IfSome, option_map}}, proofs.lemmas.{Bool.{cases_lt, lt-ltb, le-ltb}, List.Elements.{All-take, All-drop}}}
use Rattle.std.proofs.Common.{rules, ◌≡◌, ◌<◌, ◌≤◌, ◌+◌, ◌*◌, ℕ, zero, suc, List, [], ◌∷◌, ◌++◌, length, take, drop, nat_lt, All, Option, Some, None, refl, sym, ◌∙◌, inl, inr, arith, length-drop, length-take, take-append-drop, ◌^◌, get_or, ap, subst, ◌-◌, w32, w64}
use Rattle.std.proofs.lemmas.{List.{nil_from_length, drop-drop, ext_get_or, take_all}, Nat.{from_be_bytes-to_be_bytes_4, from_be_bytes-to_be_bytes_8}, Option.slice_get_past}
use Rattle.{desk_model.specs.{claim.Geography.GeographyModel, declared.{block.BlockRow.BlockRow, geography.Pair.Pair}}, desk_store_rows.specs.claim.Keys.{block, pair, in_four}}
use Rattle.desk_store_rows.specs.claim.{GeographyRows.{IsBlockRow, IsSealed, IsGeography, neighbours_bytes, geography_rows}, Lists.{chunks_bytes, districts_bytes}}
use Rattle.desk_store_rows.specs.{claim.{RevisionRows.{HasChunk, NamesChunks, HasRevision}, Rows.{part_row, KeyMap, row_in, element_row}}, declared.value.SealRow.SealRow}
use Rattle.desk_store_rows.{specs.claim.Values.{seal_bytes, block_bytes, city_bytes}, proofs.ListLaws.{chunks_differ, districts_differ}}

-- alike at each place
pub same_elements : {X : Type 0} (xs ys : List X) → ((k : ℕ) → slice_get xs k ≡ slice_get ys k) → xs ≡ ys
same_elements [] [] alike = refl
same_elements (x ∷ xs) (y ∷ ys) alike = search (arith, alike zero, same_elements xs ys (λ k. alike (suc k)))
same_elements {X} xs ys alike = let clash : ◌≡◌ {A = Option X} (slice_get xs 0) (slice_get ys 0) = alike zero in cc

-- ---- parts
same_test : (a b c d : ℕ) → (a < b → c < d) → (c < d → a < b) → nat_lt a b ≡ nat_lt c d
same_test a b c d there back = search (rules, cases_lt, lt-ltb, le-ltb)

part_later : (size : ℕ) (bytes : List ℕ → List ℕ) (xs : List ℕ) (i : ℕ) → part_row size bytes xs (suc i) ≡ part_row size bytes (drop size xs) i
part_later size bytes xs i = search (rules, length-drop, same_test, drop-drop)

-- the bytes of a part tell the part
abbrev pub TellsPart : ℕ → (List ℕ → List ℕ) → (ℕ → Type 0) → Type 0
TellsPart size bytes P = (a b : List ℕ) → 0 < length a → length a ≤ size → All P a → 0 < length b → length b ≤ size → All P b → bytes a ≡ bytes b → a ≡ b

some_first : (size : ℕ) (bytes : List ℕ → List ℕ) (xs : List ℕ) → 0 < length xs → part_row size bytes xs 0 ≡ Some (bytes (take size xs))
some_first size bytes xs some = search (rules, lt-ltb)

none_first : (size : ℕ) (bytes : List ℕ → List ℕ) (xs : List ℕ) → length xs ≤ 0 → part_row size bytes xs 0 ≡ None
none_first size bytes xs none = search (rules, le-ltb)

some_taken : (size : ℕ) (xs : List ℕ) → 0 < size → 0 < length xs → 0 < length (take size xs)
some_taken size xs wide some = let n = length-take size xs in omega arith

few_taken : (size : ℕ) (xs : List ℕ) → length (take size xs) ≤ size
few_taken size xs = let n = length-take size xs in omega arith

first_same : (size : ℕ) (bytes : List ℕ → List ℕ) (P : ℕ → Type 0) (xs ys : List ℕ) → 0 < size → TellsPart size bytes P → All P xs → All P ys → part_row size bytes xs 0 ≡ part_row size bytes ys 0 → take size xs ≡ take size ys
first_same size bytes P xs ys wide tells fx fy same = elim (cases_lt 0 (length xs)) [
  | inl some ↦ elim (cases_lt 0 (length ys)) [
    | inl more ↦ tells (take size xs) (take size ys) (some_taken size xs wide some) (few_taken size xs) (All-take P size xs fx) (some_taken size ys wide more) (few_taken size ys) (All-take P size ys fy)
        (cc (some_first size bytes xs some, some_first size bytes ys more))
    | inr none ↦ cc (some_first size bytes xs some, none_first size bytes ys none)
  ]
  | inr none ↦ elim (cases_lt 0 (length ys)) [
    | inl more ↦ cc (none_first size bytes xs none, some_first size bytes ys more)
    | inr nothing ↦ search (rules, nil_from_length)
  ]
]

-- lists of which each part has the same row
pub same_parts : (size : ℕ) (bytes : List ℕ → List ℕ) (P : ℕ → Type 0) (limit : ℕ) (xs ys : List ℕ) → 0 < size → TellsPart size bytes P → length xs ≤ size * limit → length ys ≤ size * limit → All P xs → All P ys
    → ((i : ℕ) → i < limit → part_row size bytes xs i ≡ part_row size bytes ys i) → xs ≡ ys
same_parts size bytes P zero xs ys wide tells few_xs few_ys fx fy alike = nil_from_length xs (omega arith) ∙ sym (nil_from_length ys (omega arith))
same_parts size bytes P (suc limit) xs ys wide tells few_xs few_ys fx fy alike =
    let long_xs = length-drop size xs in
    let long_ys = length-drop size ys in
    let next : size * suc limit ≡ size + size * limit = omega arith in
    let first : take size xs ≡ take size ys = first_same size bytes P xs ys wide tells fx fy (alike 0 (omega arith)) in
    let rest : drop size xs ≡ drop size ys = same_parts size bytes P limit (drop size xs) (drop size ys) wide tells (omega arith) (omega arith) (All-drop P size xs fx) (All-drop P size ys fy)
    (λ i less. sym (part_later size bytes xs i) ∙ alike (suc i) (omega arith) ∙ part_later size bytes ys i) in
    sym (take-append-drop size xs) ∙ (λ i. first i ++ rest i) ∙ take-append-drop size ys

-- ---- A number names one list of districts, and a revision one list of chunks.
pub one_chunk : (m : KeyMap) (number : ℕ) (a b : List ℕ) → HasChunk m number a → HasChunk m number b → a ≡ b
one_chunk m number a b one other = same_parts 512 districts_bytes (λ d. d < 2 ^ 16) (2 ^ 16) a b (omega arith)
    (λ x y some few each more less all. districts_differ x y (record { some = some; most = few; each = each }) (record { some = more; most = less; each = all }))
    one.few other.few one.each other.each (λ i less. sym (one.pieces i less) ∙ other.pieces i less)

pub one_naming : (m : KeyMap) (plan revision : ℕ) (a b : List ℕ) → NamesChunks m plan revision a → NamesChunks m plan revision b → a ≡ b
one_naming m plan revision a b one other = same_parts 128 chunks_bytes (λ n. n < 2 ^ 64) (2 ^ 8) a b (omega arith)
    (λ x y some few each more less all. chunks_differ x y (record { some = some; most = few; each = each }) (record { some = more; most = less; each = all }))
    one.few other.few one.each other.each (λ i less. sym (one.parts i less) ∙ other.parts i less)

pub one_revision : (m : KeyMap) (plan revision : ℕ) (a b : List (List ℕ)) → HasRevision m plan revision a → HasRevision m plan revision b → a ≡ b
one_revision m plan revision a b one other =
    let same : one.numbers ≡ other.numbers = one_naming m plan revision one.numbers other.numbers one.names other.names in
    let count : length a ≡ length b = sym one.count ∙ ap length same ∙ other.count in
    ext_get_or [] a b count (λ k within.
    let among : k < length b = omega arith in
    one_chunk m (get_or one.numbers k 0) (get_or a k []) (get_or b k []) (one.chunks k within)
    (subst (λ (l : List ℕ). HasChunk m (get_or l k 0) (get_or b k [])) (sym same) (other.chunks k among)))

-- ---- values
pub value_is : (a b : List ℕ) → ◌≡◌ {A = Option (List ℕ)} (Some a) (Some b) → a ≡ b
value_is a b same = cc

pub no_value : (a : List ℕ) → ◌≡◌ {A = Option (List ℕ)} (Some a) None → ⊥
no_value a clash = cc

pub seal_load : (a b : SealRow) → a.load < 2 ^ 64 → b.load < 2 ^ 64 → seal_bytes a ≡ seal_bytes b → a.load ≡ b.load
seal_load a b fa fb same = sym (from_be_bytes-to_be_bytes_8 a.load fa) ∙ ap (from_be_bytes w64) same ∙ from_be_bytes-to_be_bytes_8 b.load fb

pub seal_blocks : (a b : SealRow) → a.blocks < 2 ^ 32 → b.blocks < 2 ^ 32 → seal_bytes a ≡ seal_bytes b → a.blocks ≡ b.blocks
seal_blocks a b fa fb same = sym (from_be_bytes-to_be_bytes_4 a.blocks fa) ∙ ap (λ l. from_be_bytes w32 (drop 8 l)) same ∙ from_be_bytes-to_be_bytes_4 b.blocks fb

pub seal_pairs : (a b : SealRow) → a.pairs < 2 ^ 32 → b.pairs < 2 ^ 32 → seal_bytes a ≡ seal_bytes b → a.pairs ≡ b.pairs
seal_pairs a b fa fb same = sym (from_be_bytes-to_be_bytes_4 a.pairs fa) ∙ ap (λ l. from_be_bytes w32 (drop 12 l)) same ∙ from_be_bytes-to_be_bytes_4 b.pairs fb

-- the five bytes of a city or none
same_city : (a b : Option ℕ) (rest more : List ℕ) → IfSome a (λ c. c < 2 ^ 32) → IfSome b (λ c. c < 2 ^ 32) → city_bytes a ++ rest ≡ city_bytes b ++ more → (a ≡ b) × (rest ≡ more)
same_city None None rest more fa fb same = (refl, ap (drop 5) same)
same_city (Some a) (Some b) rest more fa fb same = (ap Some (sym (from_be_bytes-to_be_bytes_4 a fa) ∙ ap (λ l. from_be_bytes w32 (drop 1 l)) same ∙ from_be_bytes-to_be_bytes_4 b fb), ap (drop 5) same)
same_city _ _ rest more fa fb same = cc

same_block : (a b : BlockRow) → IsBlockRow a → IsBlockRow b → block_bytes a ≡ block_bytes b → a ≡ b
same_block a b fa fb same =
    let small_a : a.id < 2 ^ 64 = omega (arith, fa.id_fits) in
    let small_b : b.id < 2 ^ 64 = omega (arith, fb.id_fits) in
    let id : a.id ≡ b.id = sym (from_be_bytes-to_be_bytes_8 a.id small_a) ∙ ap (from_be_bytes w64) same ∙ from_be_bytes-to_be_bytes_8 b.id small_b in
    let (city, last) = same_city a.city b.city (in_four a.population) (in_four b.population) fa.city_fits fb.city_fits (ap (drop 8) same) in
    let people : a.population ≡ b.population = sym (from_be_bytes-to_be_bytes_4 a.population fa.people_fit) ∙ ap (from_be_bytes w32) last ∙ from_be_bytes-to_be_bytes_4 b.population fb.people_fit in
    λ i. record { id = id i; city = city i; population = people i }

-- two places in 32 bits
pub record IsSmallPair (p : Pair) : Type 0 where
  pub first_fits : p.first < 2 ^ 32
  pub second_fits : p.second < 2 ^ 32

same_pair : (a b : Pair) → IsSmallPair a → IsSmallPair b → neighbours_bytes a ≡ neighbours_bytes b → a ≡ b
same_pair a b fa fb same = search (rules, from_be_bytes-to_be_bytes_4)

-- ---- lists with a row for each element
fit_at : {X : Type 0} (Fit : X → Type 0) (xs : List X) (k : ℕ) → All Fit xs → IfSome (slice_get xs k) Fit
fit_at Fit [] k all = tt
fit_at Fit (x ∷ xs) zero all = all zero x (omega arith)
fit_at Fit (x ∷ xs) (suc k) all = fit_at Fit xs k (λ j d within. all (suc j) d (omega arith))

told_element : {X : Type 0} (bytes : X → List ℕ) (Fit : X → Type 0) → ((a b : X) → Fit a → Fit b → bytes a ≡ bytes b → a ≡ b) → (a b : Option X) → IfSome a Fit → IfSome b Fit → option_map bytes a ≡ option_map bytes b → a ≡ b
told_element bytes Fit tell a b fa fb same = search (arith, no_value, bytes, tell, value_is)

one_list : {X : Type 0} (bytes : X → List ℕ) (Fit : X → Type 0) → ((a b : X) → Fit a → Fit b → bytes a ≡ bytes b → a ≡ b) → (limit : ℕ) (xs ys : List X) → length xs ≤ limit → length ys ≤ limit → All Fit xs → All Fit ys → ((k : ℕ) → k < limit → element_row bytes xs k ≡ element_row bytes ys k) → xs ≡ ys
one_list bytes Fit tell limit xs ys few_xs few_ys fx fy alike = same_elements xs ys (λ k. search (arith, cases_lt k limit, told_element bytes Fit tell, fit_at Fit, alike k, slice_get_past))

-- ---- geographies
abbrev sealed_row : ℕ → GeographyModel → SealRow
sealed_row load g = record { load = load; blocks = length g.blocks; pairs = length g.pairs }

small_pairs : (m : KeyMap) (load : ℕ) (g : GeographyModel) → IsSealed m load g → All IsSmallPair g.pairs
small_pairs m load g sealed k d within = search arith

all_blocks : (g : GeographyModel) → take (geography_rows g) g.blocks ≡ g.blocks
all_blocks g = take_all (geography_rows g) g.blocks (omega arith)

all_pairs : (g : GeographyModel) → take (geography_rows g - length g.blocks) g.pairs ≡ g.pairs
all_pairs g = take_all (geography_rows g - length g.blocks) g.pairs (omega arith)

one_sealed : (m : KeyMap) (one other : ℕ) (g h : GeographyModel) → IsSealed m one g → IsSealed m other h → g ≡ h
one_sealed m one other g h a b =
    let load : one ≡ other = seal_load (sealed_row one g) (sealed_row other h) a.load_fits b.load_fits (value_is (seal_bytes (sealed_row one g)) (seal_bytes (sealed_row other h)) (sym a.named ∙ b.named)) in
    let few_a = a.sound.blocks.few in
    let few_b = b.sound.blocks.few in
    let blocks : g.blocks ≡ h.blocks = one_list block_bytes IsBlockRow same_block (2 ^ 32) g.blocks h.blocks (omega arith) (omega arith)
    (subst (λ (l : List BlockRow). All IsBlockRow l) (all_blocks g) a.rows.fit) (subst (λ (l : List BlockRow). All IsBlockRow l) (all_blocks h) b.rows.fit)
    (λ k less. sym (ap (λ (l : List BlockRow). element_row block_bytes l k) (all_blocks g)) ∙ sym (a.rows.blocks k less) ∙ ap (λ n. row_in m (block n k)) load ∙ b.rows.blocks k less ∙ ap (λ (l : List BlockRow). element_row block_bytes l k) (all_blocks h)) in
    let pairs : g.pairs ≡ h.pairs = one_list neighbours_bytes IsSmallPair same_pair (2 ^ 32) g.pairs h.pairs (let few = a.pairs_fit in omega arith) (let few = b.pairs_fit in omega arith)
    (small_pairs m one g a) (small_pairs m other h b)
    (λ k less. sym (ap (λ (l : List Pair). element_row neighbours_bytes l k) (all_pairs g)) ∙ sym (a.rows.pairs k less) ∙ ap (λ n. row_in m (pair n k)) load ∙ b.rows.pairs k less ∙ ap (λ (l : List Pair). element_row neighbours_bytes l k) (all_pairs h)) in
    λ i. record { blocks = blocks i; pairs = pairs i }

pub one_geography : (m : KeyMap) (a b : Option GeographyModel) → IsGeography m a → IsGeography m b → a ≡ b
one_geography m None None x y = refl
one_geography m None (Some h) x y = absurd (no_value _ (sym y.1.named ∙ x))
one_geography m (Some g) None x y = absurd (no_value _ (sym x.1.named ∙ y))
one_geography m (Some g) (Some h) x y = ap Some (one_sealed m x.0 y.0 g h x.1 y.1)
