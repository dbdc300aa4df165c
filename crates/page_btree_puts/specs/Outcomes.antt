-- What a put leaves, where the device is honest and the pages hold what they may.
use Rattle.{std.specs.FinMap.{find, get, insert, contains_key, put as put_entry}, page_btree_gets.specs.{Editing.Spends, Errors.IsNoWant, claim.{Keys.KeyMap, Map.InTxn}}}
use Rattle.std.specs.Prelude.{◌≡◌, ◌<◌, ◌+◌, ℕ, Bool, List, [], ◌∷◌, length, Option, Some, None, is_some, Result, OnOk, IfOk, IfErr, MatchResult}
use Rattle.page_btree_gets.specs.{claim.Tree.{Tree, rows}, declared.error.TreeError.{TreeError, TheVariants.{NoPages, TooDeep}}, node.{Entries.key_at, claim.Node.{Node, IsNode}}}
use Rattle.{page_btree_gets.specs.node.claim.{Entries.{Entry, child_bytes}, Places.{key_cmp, Rises}}, page_btree_puts.specs.declared.puts.Placed.Placed}
use Rattle.{page_btree_puts.specs.Putting.{CanPut, IsRaised, IsGrown, IsWritten, IsCut, linked}, page_store.specs.{Outcomes.KeepsRoot, claim.Chain.{IsIn, AreFree}}}
use Rattle.page_store.specs.{claim.Transactions.{stored, disk_in, txn_pages, txn_root, txn_free, over, free_over}, declared.{pages.Pages.Pages, txn.Txn.Txn}}
use Rattle.sector_device.specs.{claim.Disk.Image, declared.SectorDevice.Ghosts}

-- ---- what a put does to a part of a tree, as one transaction over stored pages became another
-- a row can be put into the tree at a page
abbrev pub CanPutIn : Txn → Image → ℕ → List ℕ → Option (List ℕ) → ℕ → List ℕ → List ℕ → Tree → Type 0
CanPutIn t P level low high page bytes key tree = CanPut (txn_pages t) (over t P) level low high (free_over t P) page bytes key tree

-- a node was written whole, or cut in two
abbrev pub IsWrittenBy : Txn → Txn → Image → ℕ → Option ℕ → Node → Node → Type 0
IsWrittenBy before after P page right node upper =
    IsWritten (over before P) (over after P) (free_over before P) (free_over after P) page right node upper

-- it was cut in two
abbrev pub IsCutBy : Txn → Txn → Image → ℕ → ℕ → Node → Node → Type 0
IsCutBy before after P page right node upper =
    IsCut (over before P) (over after P) (free_over before P) (free_over after P) page right node upper

-- a new root stands above two nodes
abbrev pub IsGrownBy : Txn → Txn → Image → ℕ → ℕ → ℕ → List ℕ → Type 0
IsGrownBy before after P root right level bound =
    IsGrown (over before P) (over after P) (free_over before P) (free_over after P) root right level bound (txn_root after)

-- a tree at a page became one or two
abbrev pub IsRaisedBy : Txn → Txn → Image → ℕ → List ℕ → Option (List ℕ) → Entry → Placed → List ℕ → ℕ → Tree → Node → Type 0
IsRaisedBy before after P level low high row placed k page t upper =
    IsRaised (over before P) (over after P) level low high (free_over before P) (free_over after P)
    row.0 row.1 placed.had k page t placed.right upper

-- ---- a value of the same length in the place of another
-- the leaf of these bytes isn't cut, and no refusal is for want of room
abbrev pub IsNotCut : List ℕ → Entry → Result Placed TreeError → Type 0
IsNotCut bytes row result =
    (es : List Entry) (held : List ℕ) → IsNode bytes (record { level = 0; entries = es }) → Rises es → find key_cmp row.0 es ≡ Some held
    → length held ≡ length row.1 → MatchResult result (λ placed. placed.right ≡ None) (λ e. IsNoWant e)

module _ {D : Type 0} {g : Ghosts D} where
  -- no page is taken
  abbrev pub TakesNoPage : {T : Type 0} → Txn → Txn → Pages D g → Pages D g → Entry → Result T TreeError → Type 0
  TakesNoPage before after old new row result =
      (disk_in new).is_honest → (m : KeyMap) (held : List ℕ) → InTxn before (stored old) m → get m row.0 ≡ Some held
      → length held ≡ length row.1 → MatchResult result (λ _. txn_free after ≡ txn_free before) (λ e. IsNoWant e)

  -- the same of a put into the tree at a page of these bytes, which isn't cut
  abbrev pub TakesNoPageAt : Txn → Txn → Pages D g → Pages D g → ℕ → ℕ → List ℕ → Entry → Result Placed TreeError → Type 0
  TakesNoPageAt before after old new level page bytes row result =
      (disk_in new).is_honest → (low : List ℕ) (high : Option (List ℕ)) (t : Tree) (held : List ℕ)
      → CanPutIn before (stored old) level low high page bytes row.0 t
      → find key_cmp row.0 (rows t) ≡ Some held → length held ≡ length row.1
      → MatchResult result (λ placed. (placed.right ≡ None) × (txn_free after ≡ txn_free before)) (λ e. IsNoWant e)

  -- ---- a put
  -- the transaction reads the map with the row, and whether the key was there is told
  abbrev pub PutsRow : Txn → Txn → Pages D g → Pages D g → Entry → Result Bool TreeError → Type 0
  PutsRow before after old new row result =
      (disk_in new).is_honest → (m : KeyMap) → InTxn before (stored old) m
      → IfOk result (λ had. InTxn after (stored old) (insert m row.0 row.1) × (had ≡ contains_key m row.0))

  -- the same of a map without rows
  abbrev pub PutsFirstRow : Txn → Txn → Pages D g → Pages D g → Entry → Result (Unit {0}) TreeError → Type 0
  PutsFirstRow before after old new row result =
      (disk_in new).is_honest → (m : KeyMap) → txn_root before ≡ 0 → InTxn before (stored old) m
      → OnOk result (InTxn after (stored old) (insert m row.0 row.1))

  -- into the tree at a page of these bytes, which became one or two
  abbrev pub PutsRowAt : Txn → Txn → Pages D g → Pages D g → ℕ → ℕ → List ℕ → Entry → Node → Result Placed TreeError → Type 0
  PutsRowAt before after old new level page bytes row upper result =
      (disk_in new).is_honest → (low : List ℕ) (high : Option (List ℕ)) (t : Tree)
      → CanPutIn before (stored old) level low high page bytes row.0 t
      → IfOk result (λ placed. (k : List ℕ) → IsRaisedBy before after (stored old) level low high row placed k page t upper)

  -- into the leaf at a page of these bytes, which was written whole or cut in two
  abbrev pub PutsRowInLeaf : Txn → Txn → Pages D g → Pages D g → ℕ → List ℕ → Entry → Node → Result Placed TreeError → Type 0
  PutsRowInLeaf before after old new page bytes row upper result =
      (disk_in new).is_honest → (es : List Entry) → IsNode bytes (record { level = 0; entries = es }) → Rises es
      → AreFree (txn_pages before) (free_over before (stored old)) → (IsIn page (free_over before (stored old)) → ⊥)
      → IfOk result (λ placed. (placed.had ≡ is_some (find key_cmp row.0 es))
      × IsWrittenBy before after (stored old) page placed.right (record { level = 0; entries = put_entry key_cmp row.0 row.1 es }) upper)

  -- the node at a page was written with a link to a child's other half, after that of the child, to which the key belongs
  abbrev pub PutsLink : Txn → Txn → Pages D g → Pages D g → ℕ → List ℕ → ℕ → Node → Node → Result (Option ℕ) TreeError → Type 0
  PutsLink before after old new page key right half upper result =
      (disk_in new).is_honest → (node : Node) → IsNode (over before (stored old) page) node → 0 < length node.entries
      → AreFree (txn_pages before) (free_over before (stored old)) → (IsIn page (free_over before (stored old)) → ⊥)
      → IfOk result (λ cut. IsWrittenBy before after (stored old) page cut
      (record node { entries = linked key ((key_at half.entries 0, child_bytes right) ∷ []) node.entries }) upper)

  -- a root was made above a node and its other half
  abbrev pub MakesRoot : Txn → Txn → Pages D g → Pages D g → ℕ → ℕ → ℕ → Node → Result (Unit {0}) TreeError → Type 0
  MakesRoot before after old new root right level half result =
      (disk_in new).is_honest → AreFree (txn_pages before) (free_over before (stored old))
      → OnOk result (IsGrownBy before after (stored old) root right level (key_at half.entries 0))

  -- a node was written at a page, whole or cut in two
  abbrev pub WritesNode : Txn → Txn → Pages D g → Pages D g → ℕ → Node → Node → Result (Option ℕ) TreeError → Type 0
  WritesNode before after old new page node upper result =
      (disk_in new).is_honest → AreFree (txn_pages before) (free_over before (stored old))
      → (IsIn page (free_over before (stored old)) → ⊥)
      → IfOk result (λ right. IsWrittenBy before after (stored old) page right node upper)

  -- a node at a page was cut in two
  abbrev pub CutsNode : Txn → Txn → Pages D g → Pages D g → ℕ → Node → Node → Result ℕ TreeError → Type 0
  CutsNode before after old new page node upper result =
      (disk_in new).is_honest → AreFree (txn_pages before) (free_over before (stored old))
      → (IsIn page (free_over before (stored old)) → ⊥)
      → IfOk result (λ right. IsCutBy before after (stored old) page right node upper)

  -- what a put takes: six pages at most, none where it only replaces a value of this length; and what is left where it fails
  pub record TakesPages {T : Type 0} (before after : Txn) (old new : Pages D g) (row : Entry) (result : Result T TreeError) : Type 0 where
    pub pages : txn_pages after ≡ txn_pages before
    pub costs : Spends 11 6 before after result
    pub fixed : TakesNoPage before after old new row result
    pub spent : IfErr result (λ e. e ≡ NoPages → txn_free after ≡ 0)
    pub deep : IfErr result (λ e. e ≡ TooDeep → txn_free before ≡ txn_free after + 6)

-- the root stays, and free pages are told to be wanted only where none is left
pub record StaysRooted {T : Type 0} (before after : Txn) (result : Result T TreeError) : Type 0 where
  pub rooted : KeepsRoot before after
  pub spent : IfErr result (λ e. e ≡ NoPages → txn_free after ≡ 0)
