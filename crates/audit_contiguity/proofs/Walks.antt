-- Paths within a district, one after the other and back.
use Rattle.std.proofs.{Common.{◌≡◌, ℕ, inl, inr, List, [], ◌∷◌, ◌++◌, All, sym, ap, ◌∙◌, refl}, lemmas.List.Elements.{All-cons, All-head, All-tail, All-nil, All-push}}
use Rattle.{audit_contiguity.specs.claim.Paths.{AreNeighbours, IsPath, end_of, IsIn, AreJoined}, desk_model.specs.declared.geography.Pair.Pair}

path_push : (pairs : List Pair) (a c : ℕ) (rest : List ℕ) → IsPath pairs a rest → AreNeighbours pairs (end_of a rest) c → IsPath pairs a (rest ++ c ∷ [])
path_push pairs a c [] path next = (next, tt)
path_push pairs a c (b ∷ rest) path next = (path.0, path_push pairs b c rest path.1 next)

end_push : (a c : ℕ) (rest : List ℕ) → end_of a (rest ++ c ∷ []) ≡ c
end_push a c [] = refl
end_push a c (b ∷ rest) = end_push b c rest

turned : (pairs : List Pair) (a b : ℕ) → AreNeighbours pairs a b → AreNeighbours pairs b a
turned pairs a b (inl has) = inr has
turned pairs a b (inr has) = inl has

module _ {pairs : List Pair} {plan : List ℕ} {d : ℕ} where
  pub joined_here : (a : ℕ) → IsIn plan d a → AreJoined pairs plan d a a
  joined_here a lies = record { rest = []; path = tt; ends = refl; inside = All-cons (IsIn plan d) a [] lies (All-nil (IsIn plan d)) }

  joined_push : (a b c : ℕ) → AreJoined pairs plan d a b → AreNeighbours pairs b c → IsIn plan d c → AreJoined pairs plan d a c
  joined_push a b c way next lies = record {
    rest = way.rest ++ c ∷ [];
    path = path_push pairs a c way.rest way.path (rw way.ends next);
    ends = end_push a c way.rest;
    inside = All-push (IsIn plan d) (a ∷ way.rest) c way.inside lies;
  }

  joined_along : (a b : ℕ) (rest : List ℕ) → AreJoined pairs plan d a b → IsPath pairs b rest → All (IsIn plan d) (b ∷ rest) → AreJoined pairs plan d a (end_of b rest)
  joined_along a b [] way path inside = way
  joined_along a b (c ∷ rest) way path inside =
      let later = All-tail (IsIn plan d) b (c ∷ rest) inside in
      joined_along a c rest (joined_push a b c way path.0 (All-head (IsIn plan d) c rest later)) path.1 later

  -- one way after the other
  pub joined_on : {a b c : ℕ} → AreJoined pairs plan d a b → AreJoined pairs plan d b c → AreJoined pairs plan d a c
  joined_on {a} {b} one other = rw other.ends at (joined_along a b other.rest one other.path other.inside)

  back_along : (a : ℕ) (rest : List ℕ) → IsPath pairs a rest → All (IsIn plan d) (a ∷ rest) → AreJoined pairs plan d (end_of a rest) a
  back_along a [] path inside = joined_here a (All-head (IsIn plan d) a [] inside)
  back_along a (b ∷ rest) path inside =
      joined_push (end_of b rest) b a (back_along b rest path.1 (All-tail (IsIn plan d) a (b ∷ rest) inside)) (turned pairs a b path.0) (All-head (IsIn plan d) a (b ∷ rest) inside)

  -- the way back
  pub joined_back : {a b : ℕ} → AreJoined pairs plan d a b → AreJoined pairs plan d b a
  joined_back {a} way = rw way.ends at (back_along a way.rest way.path way.inside)

  pub joined_next : (a b : ℕ) → IsIn plan d a → IsIn plan d b → AreNeighbours pairs a b → AreJoined pairs plan d a b
  joined_next a b lies lies_too next = joined_push a a b (joined_here a lies) next lies_too

  -- the end lies in the district
  pub end_lies : {a b : ℕ} → AreJoined pairs plan d a b → IsIn plan d b
  end_lies {a} {b} way = let back = joined_back way in All-head (IsIn plan d) b back.rest back.inside

-- what is the same for neighbours of a district is the same for all blocks that a path within it joins
module _ (pairs : List Pair) (plan : List ℕ) (d : ℕ) (root : ℕ → ℕ) (same : (x y : ℕ) → AreNeighbours pairs x y → IsIn plan d x → IsIn plan d y → root x ≡ root y) where
  same_along : (a : ℕ) (rest : List ℕ) → IsPath pairs a rest → All (IsIn plan d) (a ∷ rest) → root (end_of a rest) ≡ root a
  same_along a [] path inside = refl
  same_along a (b ∷ rest) path inside =
      let later = All-tail (IsIn plan d) a (b ∷ rest) inside in
      same_along b rest path.1 later ∙ sym (same a b path.0 (All-head (IsIn plan d) a (b ∷ rest) inside) (All-head (IsIn plan d) b rest later))

  pub same_joined : {a b : ℕ} → AreJoined pairs plan d a b → root b ≡ root a
  same_joined {a} way = ap root (sym way.ends) ∙ same_along a way.rest way.path way.inside
