-- What a map in pages keeps, and what is read of it where the device is honest and the pages hold what they may.
use Rattle.std.specs.{FinMap.find, Prelude.{◌≡◌, ◌≢◌, ◌⊎◌, ◌≤◌, ◌<◌, ◌+◌, ◌^◌, ℕ, List, Option, None, Result, OnOk, IfOk}}
use Rattle.page_btree_gets.specs.{Getting.{CanGet, CanGetAt, IsCopied, LevelErr}, Leading.{LeadsTo, LeadsAll, end_of}, Map.OpensMap, Seeking.{bound_in, IsRead}, claim.Keys.KeyMap}
use Rattle.page_btree_gets.specs.{claim.{Errors.level_in, Map.{Holds, InTxn, IsRooted}, Tree.rows}, declared.{error.TreeError.TreeError, reach.Reach.Reach, seeks.Leaf.Leaf}}
use Rattle.{page_btree_node.specs.claim.Places.key_cmp, page_store.specs.{Reading.ReadsOnly, claim.Chain.{root_in, free_in}, declared.{pages.Pages.Pages, txn.Txn.Txn}}}
use Rattle.page_store.specs.{claim.Transactions.{stored, disk_in, txn_pages, txn_root, over, free_over}, gate_journal.{Store.IsBeforeOrAfter, claim.Store.{home, overlay}}}
use Rattle.sector_device.specs.{claim.Disk.Image, declared.SectorDevice.Ghosts}

-- ---- laws of maps in pages
-- a transaction that begins with the pages' root and free pages reads the map that they hold
abbrev pub ReadsWhatPagesHold : Type 0
ReadsWhatPagesHold =
    (t : Txn) (P : Image) (m : KeyMap) → Holds (txn_pages t) P (root_in P) (free_in P) m → ((q : ℕ) → over t P q ≡ P q)
    → txn_root t ≡ root_in P → free_over t P ≡ free_in P → InTxn t P m

-- pages that are, but for page 0, as a transaction reads them, with its root and its free pages, hold its map
abbrev pub HoldsWhatWasPrepared : Type 0
HoldsWhatWasPrepared =
    (t : Txn) (P Q : Image) (m : KeyMap) → InTxn t P m → ((q : ℕ) → q ≢ 0 → Q q ≡ over t P q) → root_in Q ≡ txn_root t
    → free_in Q ≡ free_over t P → Holds (txn_pages t) Q (root_in Q) (free_in Q) m

-- an image with all writes or none opens to the map with them or to the one without
abbrev pub OpensOneOfTwo : Type 0
OpensOneOfTwo =
    (sectors J n : ℕ) (ws : List (ℕ × List ℕ)) (P : Image) (m next : KeyMap) (c : Image) → home J + n ≡ sectors
    → Holds n P (root_in P) (free_in P) m → Holds n (overlay ws P) (root_in (overlay ws P)) (free_in (overlay ws P)) next
    → IsBeforeOrAfter J n ws P c → OpensMap sectors m c ⊎ OpensMap sectors next c

module _ {D : Type 0} {g : Ghosts D} where
  -- ---- what is read
  -- in the tree at a page, the value of a key was copied, where it has one
  abbrev pub ReadsValueAt : Txn → Pages D g → Pages D g → ℕ → ℕ → List ℕ → List ℕ → Result (Option ℕ) TreeError → Type 0
  ReadsValueAt t old new level page key into result =
      (disk_in new).is_honest → (can : CanGet (txn_pages t) (over t (stored old)) level key (over t (stored old) page))
      → IfOk result (λ found. IsCopied found into (find key_cmp key (rows can.tree)))

  -- the page that was found is that of the leaf that a key belongs to, in the tree at a root
  abbrev pub FindsLeaf : Txn → Pages D g → Pages D g → ℕ → List ℕ → Result ℕ TreeError → Type 0
  FindsLeaf t old new root key result =
      (disk_in new).is_honest → (d : ℕ) → CanGetAt (txn_pages t) (over t (stored old)) d key root
      → IfOk result (λ leaf. LeadsTo (over t (stored old)) d root key leaf)

  -- and so do the keys after it as far as they reach
  abbrev pub FindsReach : Txn → Pages D g → Pages D g → ℕ → List ℕ → Reach → Result ℕ TreeError → Type 0
  FindsReach t old new root key reach result =
      (disk_in new).is_honest → IfOk result (λ leaf. LeadsAll (over t (stored old)) (level_in (over t (stored old)) root) root key (end_of reach) leaf)

  -- the leaf in whose range a key falls was read, with leaves that follow it: of the whole tree
  abbrev pub ReadsLeaf : Txn → Pages D g → Pages D g → List ℕ → Leaf → List (List ℕ) → Result (Unit {0}) TreeError → Type 0
  ReadsLeaf t old new key leaf held result =
      (disk_in new).is_honest → (m : KeyMap) (r : IsRooted (txn_pages t) (over t (stored old)) (txn_root t) (free_over t (stored old)) m)
      → OnOk result (IsRead r.tree None None key leaf held)

  -- and of the tree at a page, where the leaf held before says what bounds it
  abbrev pub ReadsLeafAt : Txn → Pages D g → Pages D g → ℕ → ℕ → List ℕ → Leaf → Leaf → List (List ℕ) → Result (Unit {0}) TreeError → Type 0
  ReadsLeafAt t old new level page key was leaf held result =
      (disk_in new).is_honest → (can : CanGet (txn_pages t) (over t (stored old)) level key (over t (stored old) page))
      → OnOk result (IsRead can.tree can.high (bound_in was) key leaf held)

  -- a page of a node of this level was read or lent
  pub record ReachesLevel {A : Type 0} (t : Txn) (old new : Pages D g) (level page : ℕ) (result : Result A TreeError) : Type 0 where
    pub reading : ReadsOnly (LevelErr t old new level page) old new result
    pub below : OnOk result (page < txn_pages t)
    pub few : txn_pages t ≤ 2 ^ 32
