-- A forest grows by a pair.
use Rattle.std.proofs.Common.{◌≡◌, ◌≢◌, ℕ, ◌+◌, ◌<◌, ◌≤◌, inl, inr, cond, eqb, List, All, length, get_or, min, max, take, Contains, sym, ap, ◌∙◌, arith, eq-eqb, ne_eqb, rules}
use Rattle.std.proofs.lemmas.{Bool.{cases_eq, cases_lt, cond_both, eqb-true}, List.Elements.{All-more, All-nil, All-weaker, Contains-get_or}}
use Rattle.audit_contiguity.specs.{Forest.{ArePairsOf, PointsDown, AreAlone, IsRooting, merged, HasOneRoot, IsForest}, claim.Paths.{AreNeighbours, IsIn, AreJoined}}
use Rattle.{desk_model.specs.declared.geography.Pair.Pair, audit_contiguity.proofs.Walks.{joined_here, joined_on, joined_back, joined_next, end_lies}}

pub forest_alone : (pairs : List Pair) (plan : List ℕ) (first last : ℕ) (parents : List ℕ) → ArePairsOf plan pairs → AreAlone (length plan) parents
    → IsForest pairs plan first last 0 parents
forest_alone pairs plan first last parents placed alone = record {
  placed = placed;
  long = alone.long;
  down = λ i less. omega (arith, alone.own i (rw alone.long at less));
  root = λ i. i;
  rooting = search rules;
  joined = λ i d lies. joined_here i lies;
  closed = All-nil (HasOneRoot (λ i. i) plan first last);
}

-- the same trees, in which these pairs have one root each
pub forest_still : {pairs : List Pair} {plan parents : List ℕ} {low high old first last count : ℕ} (was : IsForest pairs plan low high old parents)
    → All (HasOneRoot was.root plan first last) (take count pairs) → IsForest pairs plan first last count parents
forest_still was closed =
    record { placed = was.placed; long = was.long; down = was.down; root = was.root; rooting = was.rooting; joined = was.joined; closed = closed }

-- a block whose root is the higher of two or the lower has the lower one then
merged_low : (root : ℕ → ℕ) (low high i : ℕ) → (root i ≢ high → root i ≡ low) → merged root low high i ≡ low
merged_low root low high i else_low = elim (cases_eq (root i) high) [
  | inl same ↦ ap (λ b. cond b low (root i)) (eq-eqb (root i) high same)
  | inr other ↦ ap (λ b. cond b low (root i)) (ne_eqb (root i) high other) ∙ else_low other
]

same_low : (root : ℕ → ℕ) (x y : ℕ) → merged root (min (root x) (root y)) (max (root x) (root y)) x ≡ merged root (min (root x) (root y)) (max (root x) (root y)) y
same_low root x y = merged_low root (min (root x) (root y)) (max (root x) (root y)) x (λ ne. omega (arith, ne)) ∙ sym (merged_low root _ _ y (λ ne. omega (arith, ne)))

module _ {pairs : List Pair} {plan : List ℕ} (root : ℕ → ℕ) (joined : (i d : ℕ) → IsIn plan d i → AreJoined pairs plan d i (root i)) (e : ℕ) where
  -- two neighbours of a district: a block whose root is the one's is joined to the other's
  through : (x y i d to : ℕ) → IsIn plan e x → IsIn plan e y → AreNeighbours pairs x y → IsIn plan d i → root i ≡ root x → to ≡ root y → AreJoined pairs plan d i to
  through x y i d to lies_x lies_y next lies is to_is =
      let way : AreJoined pairs plan d i (root x) = rw is at (joined i d lies) in
      let same : e ≡ d = sym (end_lies (joined x e lies_x)).given ∙ (end_lies way).given in
      rw to_is (joined_on way (rw same at (joined_on (joined_on (joined_back (joined x e lies_x)) (joined_next x y lies_x lies_y next)) (joined y e lies_y))))

  merged_joined : (x y i d : ℕ) → IsIn plan e x → IsIn plan e y → AreNeighbours pairs x y → AreNeighbours pairs y x → IsIn plan d i
      → AreJoined pairs plan d i (merged root (min (root x) (root y)) (max (root x) (root y)) i)
  merged_joined x y i d lies_x lies_y next back lies =
      cond_both (eqb (root i) (max (root x) (root y))) (min (root x) (root y)) (root i) (AreJoined pairs plan d i)
      (λ at. let is = eqb-true (root i) (max (root x) (root y)) at in elim (cases_lt (root x) (root y)) [
        | inl less ↦ through y x i d (min (root x) (root y)) lies_y lies_x back lies (omega arith) (omega arith)
        | inr more ↦ through x y i d (min (root x) (root y)) lies_x lies_y next lies (omega arith) (omega arith)
      ])
      (λ other. joined i d lies)

module _ {pairs : List Pair} {plan : List ℕ} {first last count : ℕ} {parents : List ℕ} (pair : Pair) (less : count < length pairs) (is : pair ≡ get_or pairs count pair) (was : IsForest pairs plan first last count parents) where
  -- a pair that isn't within one of the districts changes nothing
  pub forest_skip : ((d : ℕ) → first ≤ d → d ≤ last → IsIn plan d pair.first → IsIn plan d pair.second → ⊥) → IsForest pairs plan first last (count + 1) parents
  forest_skip none =
      forest_still was (All-more (HasOneRoot was.root plan first last) pairs count pair less was.closed (rw (← is) (λ d from to one other. absurd (none d from to one other))))

  -- a pair within a district joins the trees of its blocks
  pub forest_join : (new : List ℕ) (e : ℕ) → IsIn plan e pair.first → IsIn plan e pair.second → length new ≡ length parents → PointsDown new
      → ((root : ℕ → ℕ) → IsRooting root parents → IsRooting (merged root (min (root pair.first) (root pair.second)) (max (root pair.first) (root pair.second))) new)
      → IsForest pairs plan first last (count + 1) new
  forest_join new e lies_first lies_second long down rooting = record {
    placed = was.placed;
    long = long ∙ was.long;
    down = down;
    root = to;
    rooting = rooting was.root was.rooting;
    joined = λ i d lies. merged_joined was.root was.joined e pair.first pair.second i d lies_first lies_second (inl has) (inr has) lies;
    closed = All-more (HasOneRoot to plan first last) pairs count pair less
        (All-weaker (HasOneRoot was.root plan first last) (HasOneRoot to plan first last) kept (take count pairs) was.closed)
        (rw (← is) (λ d from within one other. same_low was.root pair.first pair.second));
  }
    where
      low : ℕ
      low = min (was.root pair.first) (was.root pair.second)

      high : ℕ
      high = max (was.root pair.first) (was.root pair.second)

      to : ℕ → ℕ
      to = merged was.root low high

      has : Contains pairs (record { first = pair.first; second = pair.second })
      has = rw is (Contains-get_or pairs count pair less)

      kept : (p : Pair) → HasOneRoot was.root plan first last p → HasOneRoot to plan first last p
      kept p one d from within lies_one lies_other = ap (λ r. cond (eqb r high) low r) (one d from within lies_one lies_other)
