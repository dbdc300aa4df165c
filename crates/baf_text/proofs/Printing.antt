-- The parts of a printed text.
use Rattle.std.{specs.{Fmt.decimal, List.{flat_map, zip}}, proofs.lemmas.{List.Concat.flat_map-append, Slice.Zip.{get_or-zip, length-zip}}}
use Rattle.std.proofs.Common.{◌≡◌, ℕ, ◌+◌, ◌-◌, ◌<◌, ◌≤◌, List, [], ◌∷◌, ◌++◌, length, take, drop, get_or, replicate, sym, ◌∙◌, ap, arith, append_assoc, length-append, length-drop, rules}
use Rattle.{std.proofs.lemmas.List.{get_or-map, take_more, take-take, take-replicate, length-replicate, append-nil, take_all, length-map}, desk_model.specs.claim.Geography.ids_of}
use Rattle.desk_model.specs.{claim.{Padded.padded_decimal, Printed.row_text}, declared.{block.BlockRow.BlockRow, kind.Kind.Kind}}

-- zeros before a place are zeros before an earlier one
pub zeros_below : (xs : List ℕ) (n m : ℕ) → n ≤ m → take m xs ≡ replicate m 48 → take n xs ≡ replicate n 48
zeros_below xs n m le zeros = sym (take-take n m xs le) ∙ ap (take n) zeros ∙ take-replicate n m 48 le

pub length-padded : (width n : ℕ) → length (padded_decimal width n) ≡ (width - length (decimal n)) + length (decimal n)
length-padded width n = search (rules, length-append, length-replicate)

-- where so many bytes stand before the rest of a row
pub width_of : (row old text : List ℕ) (start end : ℕ) → start ≤ end → end ≤ length old → length row ≡ length old → drop start row ≡ text ++ drop end old → end ≡ start + length text
width_of row old text start end le within same written =
    omega (arith, ap length written, length-drop start row, length-drop end old, length-append text (drop end old))

zip_more : (blocks : List BlockRow) (ds : List ℕ) (i : ℕ) (b : BlockRow) → i < length blocks → i < length ds → b ≡ get_or blocks i b
    → take (i + 1) (zip (ids_of blocks) ds) ≡ take i (zip (ids_of blocks) ds) ++ (b.id, get_or ds i 0) ∷ []
zip_more blocks ds i b within inside is =
    let fits : i < length (ids_of blocks) = omega (arith, length-map blocks (λ (b : BlockRow). b.id)) in
    let id : get_or (ids_of blocks) i 0 ≡ b.id = get_or-map (λ (b : BlockRow). b.id) blocks i b 0 within ∙ ap (λ (r : BlockRow). r.id) (sym is) in
    take_more (zip (ids_of blocks) ds) i (0, 0) (omega (arith, length-zip (ids_of blocks) ds))
    ∙ ap (λ e. take i (zip (ids_of blocks) ds) ++ e ∷ []) (get_or-zip (ids_of blocks) ds i (0, 0) fits inside ∙ ap (λ n. (n, get_or ds i 0)) id)

-- the rows with one block more
rows_more : (kind : Kind) (blocks : List BlockRow) (ds : List ℕ) (i : ℕ) (b : BlockRow) → i < length blocks → i < length ds → b ≡ get_or blocks i b
    → flat_map (row_text kind) (take (i + 1) (zip (ids_of blocks) ds)) ≡ flat_map (row_text kind) (take i (zip (ids_of blocks) ds)) ++ row_text kind (b.id, get_or ds i 0)
rows_more kind blocks ds i b within inside is =
    ap (flat_map (row_text kind)) (zip_more blocks ds i b within inside is)
    ∙ flat_map-append (row_text kind) (take i (zip (ids_of blocks) ds)) ((b.id, get_or ds i 0) ∷ [])
    ∙ ap (λ xs. flat_map (row_text kind) (take i (zip (ids_of blocks) ds)) ++ xs) (append-nil (row_text kind (b.id, get_or ds i 0)))

all_rows : (blocks : List BlockRow) (ds : List ℕ) (i : ℕ) → length blocks ≤ i → take i (zip (ids_of blocks) ds) ≡ zip (ids_of blocks) ds
all_rows blocks ds i end = take_all i (zip (ids_of blocks) ds) (omega (arith, length-zip (ids_of blocks) ds, length-map blocks (λ (b : BlockRow). b.id)))

-- the text with one row more, and with all rows
pub text_more : (kind : Kind) (blocks : List BlockRow) (ds base old new : List ℕ) (i : ℕ) (b : BlockRow) → i < length blocks → length ds ≡ length blocks → b ≡ get_or blocks i b
    → old ≡ base ++ flat_map (row_text kind) (take i (zip (ids_of blocks) ds)) → new ≡ old ++ row_text kind (b.id, get_or ds i 0)
    → new ≡ base ++ flat_map (row_text kind) (take (i + 1) (zip (ids_of blocks) ds))
text_more kind blocks ds base old new i b within same is before pushed = search (rules, append_assoc, rows_more)

pub text_whole : (kind : Kind) (blocks : List BlockRow) (ds base text : List ℕ) (i : ℕ) → length blocks ≤ i
    → text ≡ base ++ flat_map (row_text kind) (take i (zip (ids_of blocks) ds)) → text ≡ base ++ flat_map (row_text kind) (zip (ids_of blocks) ds)
text_whole kind blocks ds base text i end is = is ∙ ap (λ rows. base ++ flat_map (row_text kind) rows) (all_rows blocks ds i end)
