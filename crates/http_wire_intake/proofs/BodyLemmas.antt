-- A body, one piece after another.
use Rattle.std.{specs.Io.KnownBytes.Consumes, proofs.{Common.{◌≡◌, ℕ, ◌+◌, List, ◌++◌, take, drop, Option, ap, ◌∙◌, append_assoc}, KnownBytes.Consumes-trans, Math.Seq.take-add}}

-- one piece more after the filled bytes
pub body_grown : (u v w : Option (List ℕ)) (start old mid new : List ℕ) (filled k : ℕ) → (more : List ℕ) × Consumes u v more × (take filled old ≡ start ++ more)
    → take filled mid ≡ take filled old → take filled new ≡ take filled mid → Consumes v w (take k (drop filled new)) → (more : List ℕ) × Consumes u w more × (take (filled + k) new ≡ start ++ more)
body_grown u v w start old mid new filled k came first second read =
    let piece = take k (drop filled new) in (
      came.0 ++ piece,
      Consumes-trans u v w came.0 piece came.1 read,
      take-add filled k new ∙ ap (λ (xs : List ℕ). xs ++ piece) (second ∙ first ∙ came.2) ∙ append_assoc start came.0 piece,
    )
