-- The companions that the pairs of a query tell, pair by pair.
use Rattle.std.{specs.List.fold, proofs.{Common.{◌≡◌, ℕ, List, ◌∷◌, map, Option, Some, None, refl, ap, sym, ◌∙◌}, lemmas.List.Folds.fold_stays}}
use Rattle.{desk_model.specs.declared.companions.Companions.Companions, http_desk_routes.specs.claim.Queries.{texts_of, more_told}}

-- what the pairs that are left tell with what was told before them
abbrev pub told_by : Companions (List ℕ × ℕ) → List (List ℕ × List ℕ) → Option (Companions (List ℕ × ℕ))
told_by told left = fold more_told (Some told) (map texts_of left)

pub none_unless : {X : Type 0} (o : Option X) → ((x : X) → o ≡ Some x → ⊥) → o ≡ None
none_unless None never = refl
none_unless (Some x) never = absurd (never x (λ i. Some x))

-- the pair that comes next tells nothing
pub nothing_told : (told : Companions (List ℕ × ℕ)) (p : List ℕ × List ℕ) (all left : List (List ℕ × List ℕ)) (answer : Option (Companions (List ℕ × ℕ)))
    → told_by told all ≡ answer → all ≡ p ∷ left → more_told (Some told) (texts_of p) ≡ None → None ≡ answer
nothing_told told p all left answer was next none =
    sym (ap (λ t. fold more_told t (map texts_of left)) none ∙ fold_stays more_told None (λ q. refl) (map texts_of left)) ∙ sym (ap (told_by told) next) ∙ was
