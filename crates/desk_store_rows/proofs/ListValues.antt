-- Lists of numbers as bytes: how long they are, and one number more.
use Rattle.std.{specs.List.{slice_range, flat_map}, proofs.{Math.Seq.take-add, lemmas.{Grind.flat_map-append, List.{append-nil, length-set, take_more_set, Elements.All-push}}}}
use Rattle.std.proofs.Common.{rules, ◌≡◌, ◌<◌, ◌≤◌, ◌+◌, ◌-◌, ◌*◌, ℕ, List, [], ◌∷◌, ◌++◌, All, Result, IsOk, OnOk, length, take, set, refl, sym, ap, subst, ◌∙◌, arith, length-append}
use Rattle.desk_store_rows.specs.claim.{Keys.{in_two, in_eight}, Lists.{chunks_bytes, districts_bytes}}

pub length-chunks : (numbers : List ℕ) → length (chunks_bytes numbers) ≡ 8 * length numbers
length-chunks [] = refl
length-chunks (x ∷ numbers) = let more = length-chunks numbers in omega (arith, more, length-append (in_eight x) (chunks_bytes numbers))

pub length-districts : (districts : List ℕ) → length (districts_bytes districts) ≡ 2 * length districts
length-districts [] = refl
length-districts (x ∷ districts) = let more = length-districts districts in omega (arith, more, length-append (in_two x) (districts_bytes districts))

-- the bytes of the first k of them, and then of the next
grown : (f : ℕ → List ℕ) (size : ℕ) (xs : List ℕ) (x k : ℕ) (bytes : List ℕ) → flat_map f xs ≡ take (size * k) bytes → f x ≡ slice_range bytes (size * k) (size * k + size) → flat_map f (xs ++ x ∷ []) ≡ take (size * k + size) bytes
grown f size xs x k bytes before next = search (rules, flat_map-append, append-nil, take-add)

-- ---- numbers that are put into an array by their places, and taken from it
-- one number more
pub filled_more : (f : ℕ → List ℕ) (size room : ℕ) (P : ℕ → Type 0) (each : List ℕ) (x k next : ℕ) (bytes : List ℕ) → k < length each → next ≡ size * k + size
    → (flat_map f (take k each) ≡ take (size * k) bytes) × (length each ≡ room) × All P (take k each) → f x ≡ slice_range bytes (size * k) (size * k + size) → P x
    → (flat_map f (take (k + 1) (set each k x)) ≡ take next bytes) × (length (set each k x) ≡ room) × All P (take (k + 1) (set each k x))
filled_more f size room P each x k next bytes less is before here fits =
    let more = take_more_set each k x less in (
      ap (flat_map f) more ∙ grown f size (take k each) x k bytes before.0 here ∙ ap (λ (n : ℕ). take n bytes) (sym is),
      length-set each k x ∙ before.1,
      subst (λ (l : List ℕ). All P l) (sym more) (All-push P (take k each) x before.2 fits),
    )

on_ok : {T E : Type 0} (r : Result T E) (P : Type 0) → IsOk r → OnOk r P → P
on_ok r P is then = search (arith)

-- a list without elements is made of those of a slice for which there is room
pub taken_whole : {T E : Type 0} (r : Result T E) (none xs new : List ℕ) (room : ℕ) → none ≡ [] → length xs ≤ room → (length none + length xs ≤ room → IsOk r) → OnOk r (new ≡ none ++ xs) → new ≡ xs
taken_whole r none xs new room empty fits is then = search (rules, on_ok)
