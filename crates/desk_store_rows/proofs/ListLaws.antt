-- A list of numbers is read back from its bytes.
use Rattle.std.{specs.{Int.from_be_bytes, List.flat_map}, proofs.Common.{◌≡◌, ◌<◌, ◌^◌, ℕ, List, [], ◌∷◌, ◌++◌, drop, All, refl, sym, ap, ◌∙◌, w16, w64, arith}}
use Rattle.{std.proofs.lemmas.{List.Elements.All-tail, Nat.{from_be_bytes-to_be_bytes_2, from_be_bytes-to_be_bytes_8}}, desk_store_rows.specs.Lists.{ChunksDiffer, DistrictsDiffer}}
use Rattle.desk_store_rows.specs.claim.Keys.{in_two, in_eight}

-- a number is told by its bytes at the head of a list
module _ (f : ℕ → List ℕ) (P : ℕ → Type 0) (some : (x : ℕ) (l : List ℕ) → f x ++ l ≡ [] → ⊥) (tell : (x y : ℕ) (l m : List ℕ) → P x → P y → f x ++ l ≡ f y ++ m → (x ≡ y) × (l ≡ m)) where
  same_list : (a b : List ℕ) → All P a → All P b → flat_map f a ≡ flat_map f b → a ≡ b
  same_list [] [] fa fb same = refl
  same_list (x ∷ a) [] fa fb same = absurd (some x (flat_map f a) same)
  same_list [] (y ∷ b) fa fb same = absurd (some y (flat_map f b) (sym same))
  same_list (x ∷ a) (y ∷ b) fa fb same =
      let (first, later) = tell x y (flat_map f a) (flat_map f b) (fa 0 x (omega arith)) (fb 0 y (omega arith)) same in
      λ i. first i ∷ same_list a b (All-tail P x a fa) (All-tail P y b fb) later i

pub chunks_differ : ChunksDiffer
chunks_differ a b fa fb = same_list in_eight (λ n. n < 2 ^ 64) (λ x l is. cc)
    (λ x y l m fx fy is. (sym (from_be_bytes-to_be_bytes_8 x fx) ∙ ap (from_be_bytes w64) is ∙ from_be_bytes-to_be_bytes_8 y fy, ap (drop 8) is)) a b fa.each fb.each

pub districts_differ : DistrictsDiffer
districts_differ a b fa fb = same_list in_two (λ n. n < 2 ^ 16) (λ x l is. cc)
    (λ x y l m fx fy is. (sym (from_be_bytes-to_be_bytes_2 x fx) ∙ ap (from_be_bytes w16) is ∙ from_be_bytes-to_be_bytes_2 y fy, ap (drop 2) is)) a b fa.each fb.each
