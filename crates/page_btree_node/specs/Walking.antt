-- Entries that lie ahead in a page's bytes, taken one after the other.
use Rattle.std.{specs.{List.All, Prelude.{Option, MatchOption, Result, IfOk}}, proofs.Common.{◌≡◌, ℕ, ◌+◌, ◌-◌, ◌≤◌, List, length, take, drop}}
use Rattle.page_btree_node.specs.{Places.entries_from, claim.{Entries.{Entry, IsEntry, body_of, size_of}, Node.{Node, IsNode}, Places.Rises}, declared.scan.NotANode.NotANode}
use Rattle.page_btree_node.specs.declared.search.Place.{Place}

-- the entries stand from a place on
pub record IsAhead (page : List ℕ) (at : ℕ) (es : List Entry) : Type 0 where
  pub body : take (size_of es) (drop at page) ≡ body_of es
  pub entries : All IsEntry es
  pub within : at + size_of es ≤ 4096

-- of entries that stand from a place on, so many end there
abbrev pub PassesTo : List ℕ → ℕ → ℕ → ℕ → Type 0
PassesTo page at n end = (es : List Entry) → IsAhead page at es → n ≤ length es → end ≡ at + size_of (take n es)

-- the n entries from a place on end there, in the page
pub record ArePassed (page : List ℕ) (at n end : ℕ) : Type 0 where
  pub within : (at ≤ end) × (end ≤ 4096)
  pub passed : PassesTo page at n end

-- where they end, or so many don't stand there
abbrev pub Passes : List ℕ → ℕ → ℕ → Option ℕ → Type 0
Passes page at n result = MatchOption result ((es : List Entry) → IsAhead page at es → n ≤ length es → ⊥) (λ end. ArePassed page at n end)

-- a part of a page
abbrev pub part_of : List ℕ → ℕ → ℕ → List ℕ
part_of page from end = take (end - from) (drop from page)

-- the place that was found is where the entries from a key on begin, and so many they are: of each node that the page stands for
abbrev pub FindsPlace : List ℕ → List ℕ → Result Place NotANode → Type 0
FindsPlace page key result =
    (node : Node) → IsNode page node → Rises node.entries
    → IfOk result (λ place. IsAhead page place.at (entries_from key node.entries) × (place.left ≡ length (entries_from key node.entries)))
