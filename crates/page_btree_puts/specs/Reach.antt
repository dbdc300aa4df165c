-- How near a tree is to a seventh level, counted in rows.
use Rattle.std.specs.Prelude.{◌≡◌, ◌<◌, ◌≤◌, ◌+◌, ℕ, Bool, List, length, Option, Some, None, IfOk, IfErr, IfSome, Result}
use Rattle.page_btree_gets.specs.{claim.{Errors.{reach_in, top_reach}, Keys.KeyMap, Map.InTxn, Tree.Tree}, declared.error.TreeError.{TreeError, TheVariants.TooDeep}}
use Rattle.{page_btree_gets.specs.node.claim.Node.{Node, IsNode, count_in}, page_btree_puts.specs.{Fingers.StandsIn, Outcomes.CanPutIn, declared.finger.Finger.Finger}}
use Rattle.{page_btree_puts.specs.declared.puts.Placed.Placed, page_store.specs.{claim.Transactions.{stored, disk_in, txn_root, over}, declared.{pages.Pages.Pages, txn.Txn.Txn}}}
use Rattle.sector_device.specs.declared.SectorDevice.{Ghosts}

-- a page's node has one entry more at most, or it was cut, and had 51 before
abbrev pub Widens : List ℕ → List ℕ → Option ℕ → Type 0
Widens was is None = count_in is ≤ count_in was + 1
Widens was is (Some q) = 51 ≤ count_in was

module _ {D : Type 0} {g : Ghosts D} where
  -- a node above the leaves is cut where it has 51 entries
  abbrev pub CutsWide : Txn → Pages D g → Pages D g → ℕ → Result (Option ℕ) TreeError → Type 0
  CutsWide before old new page result =
      (disk_in new).is_honest → (node : Node) → IsNode (over before (stored old) page) node → 0 < node.level
      → IfOk result (λ cut. IfSome cut (λ q. 51 ≤ length node.entries))

  -- so it is of the node at a page to which a key belongs
  abbrev pub WidensAt : Txn → Txn → Pages D g → Pages D g → ℕ → ℕ → List ℕ → List ℕ → Result Placed TreeError → Type 0
  WidensAt before after old new level page bytes key result =
      (disk_in new).is_honest → 0 < level → (low : List ℕ) (high : Option (List ℕ)) (t : Tree)
      → CanPutIn before (stored old) level low high page bytes key t
      → IfOk result (λ placed. Widens (over before (stored old) page) (over after (stored old) page) placed.right)

  -- a put adds one at most
  abbrev pub Rises : {T : Type 0} → Txn → Txn → Pages D g → Pages D g → Result T TreeError → Type 0
  Rises before after old new result = (disk_in new).is_honest → (m : KeyMap) → InTxn before (stored old) m
      → IfOk result (λ _. reach_in (over after (stored old)) (txn_root after) ≤ reach_in (over before (stored old)) (txn_root before) + 1)

  -- and is refused for the depth of the tree at the top alone
  abbrev pub IsTall : {T : Type 0} → Txn → Pages D g → Pages D g → Result T TreeError → Type 0
  IsTall before old new result = (disk_in new).is_honest → (m : KeyMap) → InTxn before (stored old) m
      → IfErr result (λ e. e ≡ TooDeep → top_reach ≤ reach_in (over before (stored old)) (txn_root before))

  -- the same by a finger that stood
  abbrev pub RisesBy : {T : Type 0} → Finger → Txn → Txn → Pages D g → Pages D g → Result T TreeError → Type 0
  RisesBy was before after old new result = (disk_in new).is_honest → (m : KeyMap) → InTxn before (stored old) m → StandsIn before (stored old) was
      → IfOk result (λ _. reach_in (over after (stored old)) (txn_root after) ≤ reach_in (over before (stored old)) (txn_root before) + 1)

  -- an edit of a leaf alone adds none
  abbrev pub StaysInReach : Finger → Txn → Txn → Pages D g → Pages D g → Result (Option Bool) TreeError → Type 0
  StaysInReach was before after old new result = (disk_in new).is_honest → (m : KeyMap) → InTxn before (stored old) m → StandsIn before (stored old) was
      → IfOk result (λ did. IfSome did (λ _. reach_in (over after (stored old)) (txn_root after) ≡ reach_in (over before (stored old)) (txn_root before)))
