-- Bytes of a piece of a chunk.
use Rattle.std.{specs.Prelude.All, proofs.Common.{◌≡◌, ◌<◌, ◌+◌, ◌*◌, ◌/◌, ◌%◌, ◌^◌, ℕ, zero, suc, List, [], ◌∷◌, ◌++◌, length, get_or, refl, ap, arith}}
use Rattle.{std.proofs.lemmas.List.Elements.{All-cons, All-nil}, desk_store_rows.specs.claim.{Keys.in_two, Lists.districts_bytes}}

-- so many districts have these bytes
pub record AreTwos (count : ℕ) (bytes : List ℕ) : Type 0 where
  pub districts : List ℕ
  pub long : length districts ≡ count
  pub each : All (λ d. d < 2 ^ 16) districts
  pub is : bytes ≡ districts_bytes districts

-- the bytes of one
one_two : (a b : ℕ) → a < 256 → b < 256 → a ∷ b ∷ [] ≡ in_two (256 * a + b)
one_two a b less few =
    let high : a ≡ (256 * a + b) / 256 % 256 = omega arith in
    let low : b ≡ (256 * a + b) % 256 = omega arith in
    λ i. high i ∷ low i ∷ []

-- any bytes are those of as many districts as they are pairs
pub twos : (count : ℕ) (bytes : List ℕ) → ((i : ℕ) → get_or bytes i 0 < 256) → length bytes ≡ 2 * count → AreTwos count bytes
twos zero [] fits long = record { districts = []; long = refl; each = All-nil (λ (d : ℕ). d < 2 ^ 16); is = refl }
twos (suc count) (a ∷ b ∷ bytes) fits long =
    let rest = twos count bytes (λ i. fits (suc (suc i))) (omega arith) in
    record {
      districts = (256 * a + b) ∷ rest.districts;
      long = ap suc rest.long;
      each = All-cons (λ (d : ℕ). d < 2 ^ 16) (256 * a + b) rest.districts (omega (arith, fits 0, fits 1)) rest.each;
      is = λ i. one_two a b (fits 0) (fits 1) i ++ rest.is i;
    }
twos _ _ fits long = absurd (omega arith)
