-- Children that follow one another.
use Rattle.std.specs.{List.starts_with, Option.option_map, Ordering.is_gt, Prelude.{Option, Some, IfSome}, declared.cmp.Ordering.{Ordering, TheVariants.Greater}}
use Rattle.std.proofs.Common.{rules, ◌≡◌, ◌≢◌, ◌⊎◌, ℕ, zero, suc, add-one, ◌+◌, ◌<◌, ◌≤◌, List, [], ◌∷◌, length, take, drop, set, true, false, nat_eq, refl, sym, ap, ◌∙◌, subst, arith, inl, inr}
use Rattle.page_btree_node.specs.{Bytes.LiesAt, Entries.{key_at, value_at, child_in}, Places.{floor, ceiling}, Searching.{IsTurn, RisesAfter}, Walking.part_of, Ways.AreWays}
use Rattle.page_btree_node.{specs.claim.{Entries.{Entry, size_of}, Node.{Node, IsNode}, Places.key_cmp}, proofs.Laws.{flip_less, flip_greater, floor_stop, ceiling_at}}
use Rattle.page_btree_node.proofs.{Nearing.after_at, Scanning.{entry_of, end_there, key_part, value_part}, Standing.nothing}

-- one child more, after those that there are
ways_suc : (prefix : List ℕ) (es : List Entry) (key : List ℕ) (child more : ℕ) (after b : List ℕ) (next : ℕ) → more < length after → AreWays prefix es key child more after (Some b)
    → starts_with nat_eq b prefix ≡ true → option_map child_in (floor b es) ≡ Some next → AreWays prefix es key child (suc more) (set after more next) (ceiling b es)
ways_suc prefix es key child more [] b next long ways under next_is = absurd (omega arith)
ways_suc prefix es key child zero (c ∷ rest) b next long ways under next_is = search rules
ways_suc prefix es key child (suc more) (c ∷ rest) b next long ways under next_is =
    let f = ways.1 in
    search (ways_suc prefix es f.key c more rest b next (omega arith) f.rest under next_is)

-- what is told of an optional value, where there is one
pub some_of : {A : Type 0} (P : A → Type 0) (o : Option A) (x : A) → o ≡ Some x → IfSome o P → P x
some_of {A = A} P o x is told = subst (λ (r : Option A). IfSome r P) is told

-- an entry of a node, but not its first
pub record IsHere (es : List Entry) (k at : ℕ) : Type 0 where
  pub some : 0 < k
  pub within : k < length es
  pub place : at ≡ 4 + size_of (take k es)

-- the key of a turn is where it lies
pub turn_bound : (page key : List ℕ) (node : Node) (k at value end : ℕ) → IsNode page node → IsTurn key node.entries k at → LiesAt page at value end → ceiling key node.entries ≡ Some (part_of page (at + 3) value)
turn_bound page key node k at value end is turn lies = search (rules, key_part, entry_of)

itself : (x : List ℕ) (r : Ordering) → key_cmp x x ≡ r → is_gt r ≡ false
itself x Greater is = let less = flip_greater x x is in let both = sym is ∙ less in cc
itself x _ is = refl

up_to : (es : List Entry) (k : ℕ) → RisesAfter es → k < length es → (j : ℕ) → 0 < j → j ≤ k → is_gt (key_cmp (key_at es j) (key_at es k)) ≡ false
up_to es k rises within j some le = search (rules, itself, after_at)

above_here : (es : List Entry) (k : ℕ) → RisesAfter es → 0 < k → k + 1 < length es → key_cmp (key_at es (k + 1)) (key_at es k) ≡ Greater
above_here es k rises some within = flip_less (key_at es k) (key_at es (k + 1)) (after_at es k (k + 1) rises some (omega arith) within)

-- from a key of the node on: its value is that of the child, and the next key is where the child's keys end
pub floor_here : (es : List Entry) (k : ℕ) → RisesAfter es → 0 < k → k + 1 < length es → floor (key_at es k) es ≡ Some (value_at es k)
floor_here es k rises some within = floor_stop (key_at es k) es k (omega arith) (up_to es k rises (omega arith)) (λ more. ap is_gt (above_here es k rises some within))

pub ceiling_here : (es : List Entry) (k : ℕ) → RisesAfter es → 0 < k → k + 1 < length es → ceiling (key_at es k) es ≡ Some (key_at es (k + 1))
ceiling_here es k rises some within = ceiling_at (key_at es k) es (k + 1) (omega arith) within (λ j more less. up_to es k rises (omega arith) j more (omega arith)) (ap is_gt (above_here es k rises some within))

-- one way more, in a node
pub ways_next : (prefix : List ℕ) (es : List Entry) (key : List ℕ) (child more : ℕ) (after : List ℕ) (k next : ℕ) → RisesAfter es → 0 < k → k + 1 < length es → more < length after → AreWays prefix es key child more after (Some (key_at es k))
    → starts_with nat_eq (key_at es k) prefix ≡ true → next ≡ child_in (value_at es k) → AreWays prefix es key child (more + 1) (set after more next) (Some (key_at es (k + 1)))
ways_next prefix es key child more after k next rises some within long ways under next_is =
    rw (add-one more) (search (rules, floor_here es k rises some within, ceiling_here es k rises some within, ways_suc))

-- ---- an entry that was found, at its place in the page
pub here_key : (page : List ℕ) (node : Node) (k at value end : ℕ) → IsNode page node → IsHere node.entries k at → LiesAt page at value end → part_of page (at + 3) value ≡ key_at node.entries k
here_key page node k at value end is here lies = key_part page node.entries k at value end (entry_of page node k at is here.within here.place) lies

pub here_next : (page : List ℕ) (node : Node) (k at value end : ℕ) → IsNode page node → IsHere node.entries k at → LiesAt page at value end → end ≡ 4 + size_of (take (k + 1) node.entries)
here_next page node k at value end is here lies = end_there page node.entries k at value end (entry_of page node k at is here.within here.place) lies

pub here_child : (page : List ℕ) (node : Node) (k at value end child : ℕ) → IsNode page node → IsHere node.entries k at → LiesAt page at value end → value + 4 ≡ end → child ≡ child_in (take 4 (drop value page)) → child ≡ child_in (value_at node.entries k)
here_child page node k at value end child is here lies long child_is =
    search (arith, value_part page node.entries k at value end (entry_of page node k at is here.within here.place) lies)

pub here_no_child : (page : List ℕ) (node : Node) (k at value end : ℕ) → IsNode page node → IsHere node.entries k at → LiesAt page at value end → 0 < node.level → (value ≡ 0) ⊎ (value + 4 ≢ end) → ⊥
here_no_child page node k at value end is here lies inner why =
    let within = here.within in
    let e = entry_of page node k at is within here.place in
    let four = is.shape.children inner k nothing within in
    elim why [ inl none ↦ omega arith | inr differs ↦ differs (omega arith) ]

pub ways_there : (page prefix : List ℕ) (node : Node) (key : List ℕ) (child more : ℕ) (after : List ℕ) (k at value end : ℕ) → IsNode page node → IsHere node.entries k at → LiesAt page at value end
    → AreWays prefix node.entries key child more after (Some (key_at node.entries k)) → AreWays prefix node.entries key child more after (Some (part_of page (at + 3) value))
ways_there page prefix node key child more after k at value end is here lies ways = search (rules, here_key)
