-- What isn't so of the page that is told.
use Rattle.std.specs.Prelude.{◌≡◌, ◌⊎◌, ◌≤◌, ◌<◌, ◌+◌, ℕ, List, [], ◌∷◌, length, Option, None}
use Rattle.{gate_journal.specs.claim.Store.word, page_btree_checks.specs.{Order.{lower_of, upper_of, IsOrdered}, Owners.{IsBlank, named_free, after}}}
use Rattle.page_btree_checks.specs.declared.error.{PageFaultKind.PageFaultKind, PagesError.{PagesError, TheVariants.{Unsound, DeviceFault, Halted, Memory}}}
use Rattle.page_btree_checks.specs.declared.error.PageFaultKind.TheVariants.{BeyondTheEnd, NamedTwice, NotFree, ListGoesOn, NotANode, WrongLevel, KeysOutOfOrder, Lost}
use Rattle.page_btree_gets.specs.{claim.Tree.{Tree, IsTree, page_of, owns}, node.{Entries.value_at, claim.{Entries.child_bytes, Node.{Node, IsNode}}}}
use Rattle.{page_store.specs.claim.Chain.{IsIn, root_in}, sector_device.specs.claim.Disk.Image}

-- ---- where the tree has a page
-- the way leads from a page of a level and with bounds of its keys to another one, by the children that nodes name at places
abbrev pub IsWay : Image → (page level : ℕ) → List ℕ → Option (List ℕ) → List ℕ → (end end_level : ℕ) → List ℕ → Option (List ℕ) → Type 0
IsWay P page level low high [] end end_level end_low end_high = (page ≡ end) × (level ≡ end_level) × (low ≡ end_low) × (high ≡ end_high)
IsWay P page level low high (k ∷ way) end end_level end_low end_high = (node : Node) × IsNode (P page) node × (node.level ≡ level) × (k < length node.entries)
    × ((child : ℕ) × (child_bytes child ≡ value_at node.entries k)
    × ((below : ℕ) × (level ≡ below + 1) × IsWay P child below (lower_of low node.entries k) (upper_of high node.entries k) way end end_level end_low end_high))

-- the page stands in the tree at this level and with these bounds
pub record IsPlace (P : Image) (page level : ℕ) (low : List ℕ) (high : Option (List ℕ)) : Type 0 where
  pub top : ℕ
  pub top_is : (node : Node) → IsNode (P (root_in P)) node → top ≡ node.level
  pub way : List ℕ
  pub leads : IsWay P (root_in P) top [] None way page level low high

-- it stands somewhere in the tree, with what is so there
abbrev pub StandsWith : Image → ℕ → (ℕ → List ℕ → Option (List ℕ) → Type 0) → Type 0
StandsWith P page has = (level : ℕ) × (low : List ℕ) × (high : Option (List ℕ)) × IsPlace P page level low high × has level low high

-- ---- who names a page
abbrev pub IsNamedIn : Image → ℕ → Type 0
IsNamedIn P page = (page ≡ 0) ⊎ (IsIn page (named_free P) ⊎ ((page ≡ root_in P) ⊎ StandsWith P page (λ level low high. Unit {0})))

-- no node of the tree is there
abbrev pub IsOffTree : Image → ℕ → Type 0
IsOffTree P page = (root_in P ≡ 0) ⊎ ((level : ℕ) × (tree : Tree) × IsTree P level [] None tree × (page_of tree ≡ root_in P) × (owns tree page → ⊥))

-- ---- what is told of a page, of so many
abbrev pub IsWrongPage : ℕ → Image → ℕ → PageFaultKind → Type 0
IsWrongPage n P page BeyondTheEnd = (n ≤ page) × IsNamedIn P page
IsWrongPage n P page NamedTwice = (page < n) × IsNamedIn P page
IsWrongPage n P page NotFree = IsIn page (named_free P) × (IsBlank (P page) → ⊥)
IsWrongPage n P page ListGoesOn = (page ≡ after P (word (P 0) 1) (word (P 0) 2)) × (page ≡ 0 → ⊥)
IsWrongPage n P page NotANode = StandsWith P page (λ level low high. (node : Node) → IsNode (P page) node → 5 < node.level)
IsWrongPage n P page WrongLevel = StandsWith P page (λ level low high. (node : Node) × IsNode (P page) node × (node.level ≡ level → ⊥))
IsWrongPage n P page KeysOutOfOrder = StandsWith P page (λ level low high. (node : Node) × IsNode (P page) node × (IsOrdered low high node.level node.entries → ⊥))
IsWrongPage n P page Lost = (page < n) × (page ≡ 0 → ⊥) × (IsIn page (named_free P) → ⊥) × IsOffTree P page

-- the same of what isn't found sound, if a page is told
abbrev pub TellsOf : ℕ → Image → PagesError → Type 0
TellsOf n P (Unsound fault) = IsWrongPage n P fault.page fault.kind
TellsOf n P DeviceFault = Unit {0}
TellsOf n P Halted = Unit {0}
TellsOf n P Memory = Unit {0}

-- why a page can't be named
abbrev pub IsUnnamed : ℕ → ℕ → PageFaultKind → Type 0
IsUnnamed n page BeyondTheEnd = n ≤ page
IsUnnamed n page NamedTwice = page < n
IsUnnamed n page _ = ⊥
