-- Laws of desks in pages, of any version.
use Rattle.std.specs.Prelude.{◌≡◌, ◌≢◌, ◌⊎◌, ◌≤◌, ◌+◌, ◌^◌, ℕ, Bool, List}
use Rattle.{desk_model.specs.claim.Desk.Desk, desk_store_pages.specs.claim.Desks.{HoldsDeskOf, InTxnOf, OpensDeskOf}, page_store.specs.claim.Chain.{root_in, free_in, IsPages}}
use Rattle.page_store.specs.{claim.Transactions.{txn_pages, txn_root, over, free_over}, declared.txn.Txn.Txn, gate_journal.{Store.IsBeforeOrAfter, claim.Store.{home, overlay}}}
use Rattle.sector_device.specs.claim.Disk.{Image}

-- a transaction that begins with the pages' root and free pages reads the desk that they hold
abbrev pub ReadsWhatPagesHold : Type 0
ReadsWhatPagesHold =
    (new : Bool) (t : Txn) (P : Image) (d : Desk) → HoldsDeskOf new (txn_pages t) P (root_in P) (free_in P) d
    → ((q : ℕ) → over t P q ≡ P q) → txn_root t ≡ root_in P → free_over t P ≡ free_in P → InTxnOf new t P d

-- pages that are, but for page 0, as a transaction reads them, with its root and its free pages, hold its desk
abbrev pub HoldsWhatWasPrepared : Type 0
HoldsWhatWasPrepared =
    (new : Bool) (t : Txn) (P Q : Image) (d : Desk) → InTxnOf new t P d → ((q : ℕ) → q ≢ 0 → Q q ≡ over t P q)
    → root_in Q ≡ txn_root t → free_in Q ≡ free_over t P → HoldsDeskOf new (txn_pages t) Q (root_in Q) (free_in Q) d

-- an image with all writes or none opens to the desk with them or to the one without
abbrev pub OpensOneOfTwo : Type 0
OpensOneOfTwo =
    (was then : Bool) (sectors J n : ℕ) (ws : List (ℕ × List ℕ)) (P : Image) (d next : Desk) (c : Image) → home J + n ≡ sectors
    → HoldsDeskOf was n P (root_in P) (free_in P) d
    → HoldsDeskOf then n (overlay ws P) (root_in (overlay ws P)) (free_in (overlay ws P)) next
    → IsPages n P → IsPages n (overlay ws P) → IsBeforeOrAfter J n ws P c → OpensDeskOf was sectors d c ⊎ OpensDeskOf then sectors next c

-- pages with a root and free pages hold one desk at most, in whatever version
abbrev pub HoldsOneDesk : Type 0
HoldsOneDesk =
    (new other : Bool) (n : ℕ) (P : Image) (root : ℕ) (free : List ℕ) (d e : Desk) → n ≤ 2 ^ 32 → HoldsDeskOf new n P root free d
    → HoldsDeskOf other n P root free e → d ≡ e
