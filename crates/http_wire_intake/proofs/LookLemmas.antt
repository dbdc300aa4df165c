-- Looks that are put off.
use Rattle.std.{specs.{Io.KnownBytes.Consumes, Prelude.All}, proofs.{KnownBytes.Consumes-trans, Math.Seq.drop-append_seam, lemmas.List.Elements.All-append}}
use Rattle.std.proofs.Common.{◌≡◌, ℕ, ◌-◌, List, ◌++◌, length, take, drop, Option, ap, subst, ◌∙◌, append_assoc, length-append, take_all, rules}

-- one turn more whose bytes may wait
pub waits_more : (waits : ℕ → Type 0) (u v w : Option (List ℕ)) (start old new more held looked : List ℕ) → (x : List ℕ) × Consumes u v x × (old ≡ start ++ x) × All waits x → Consumes v w more → new ≡ old ++ more
    → held ≡ new → looked ≡ old → All waits (take (length held - length looked) (drop (length looked) held)) → (x : List ℕ) × Consumes u w x × (new ≡ start ++ x) × All waits x
waits_more waits u v w start old new more held looked came read grown e f due =
    let added : take (length held - length looked) (drop (length looked) held) ≡ more = search (rules, drop-append_seam, take_all, length-append) in (
      came.0 ++ more,
      Consumes-trans u v w came.0 more came.1 read,
      grown ∙ ap (λ (t : List ℕ). t ++ more) came.2 ∙ append_assoc start came.0 more,
      All-append waits came.0 more came.3 (subst (All waits) added due),
    )
