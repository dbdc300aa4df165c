-- A list in parts of so many elements.
use Rattle.std.proofs.{Common.{rules, ◌≡◌, ◌<◌, ◌≤◌, ◌*◌, ◌+◌, ◌++◌, ℕ, cond, List, length, take, drop, All, Some, None, ap, arith, length-drop, length-take}, Math.Seq.take-add}
use Rattle.{std.proofs.lemmas.{Bool.lt-ltb, List.Elements.{All-take, All-drop}}, desk_store_rows.specs.claim.Rows.part_row}

-- the row of a part is there where it begins within the list
pub part_there : (size : ℕ) (bytes : List ℕ → List ℕ) (xs : List ℕ) (index : ℕ) → size * index < length xs → part_row size bytes xs index ≡ Some (bytes (take size (drop (size * index) xs)))
part_there size bytes xs index within = ap (λ b. cond b (Some (bytes (take size (drop (size * index) xs)))) None) (lt-ltb (size * index) (length xs) within)

-- some elements, and so many at most
pub some_of_part : (size n : ℕ) (xs : List ℕ) → 0 < size → n < length xs → 0 < length (take size (drop n xs))
some_of_part size n xs wide within = let rest = length-drop n xs in let part = length-take size (drop n xs) in omega arith

pub most_of_part : (size n : ℕ) (xs : List ℕ) → length (take size (drop n xs)) ≤ size
most_of_part size n xs = let part = length-take size (drop n xs) in omega arith

pub each_of_part : (P : ℕ → Type 0) (size n : ℕ) (xs : List ℕ) → All P xs → All P (take size (drop n xs))
each_of_part P size n xs all = All-take P size (drop n xs) (All-drop P n xs all)

-- one part more
pub parts_more : (size n : ℕ) (xs : List ℕ) → take (size * n) xs ++ take size (drop (size * n) xs) ≡ take (size * (n + 1)) xs
parts_more size n xs = search (rules, take-add)
