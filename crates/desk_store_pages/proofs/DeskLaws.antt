-- What keeps a desk in pages, and that pages hold one desk alone.
use Rattle.{std.{specs.Prelude.{◌≡◌, ◌≢◌, ◌⊎◌, ◌≤◌, ◌+◌, ◌^◌, ℕ, Bool, List}, proofs.Common.{rules, subst}}, desk_model.specs.claim.Desk.Desk, desk_store_rows.specs.Laws.DeskIsOne}
use Rattle.{desk_store_pages.specs.claim.Desks.{HoldsDeskOf, InTxnOf, OpensDeskOf}, desk_store_rows.specs.claim.{DeskRows.IsDesk, Rows.KeyMap}}
use Rattle.page_store.specs.{claim.{Chain.{root_in, free_in, IsPages}, Transactions.{txn_pages, txn_root, over, free_over}}, declared.txn.Txn.Txn}
use Rattle.{page_store.specs.gate_journal.{Store.IsBeforeOrAfter, claim.Store.{home, overlay}}, sector_device.specs.claim.Disk.Image}
use Rattle.page_btree.proofs.gets.MapLaws.{begun_holds, prepared_holds, one_map}

-- a transaction that is begun reads the desk that the pages hold
pub begun_desk : {new : Bool} (t : Txn) (P : Image) (d : Desk) → HoldsDeskOf new (txn_pages t) P (root_in P) (free_in P) d → ((q : ℕ) → over t P q ≡ P q) → txn_root t ≡ root_in P → free_over t P ≡ free_in P → InTxnOf new t P d
begun_desk t P d holds same root free = record { m = holds.m; holds = begun_holds t P holds.m holds.holds same root free; is = holds.is }

-- the pages after a commit hold the desk that the transaction read
pub prepared_desk : {new : Bool} (t : Txn) (P Q : Image) (d : Desk) → InTxnOf new t P d → ((q : ℕ) → q ≢ 0 → Q q ≡ over t P q) → root_in Q ≡ txn_root t → free_in Q ≡ free_over t P → HoldsDeskOf new (txn_pages t) Q (root_in Q) (free_in Q) d
prepared_desk t P Q d holds same root free = record { m = holds.m; holds = prepared_holds t P Q holds.m holds.holds same root free; is = holds.is }

-- an image with the pages before a commit or those after it opens to the desk before or to the desk after
pub opens_desks : {was then : Bool} (sectors J n : ℕ) (ws : List (ℕ × List ℕ)) (P : Image) (d next : Desk) (c : Image) → home J + n ≡ sectors → HoldsDeskOf was n P (root_in P) (free_in P) d → HoldsDeskOf then n (overlay ws P) (root_in (overlay ws P)) (free_in (overlay ws P)) next → IsPages n P → IsPages n (overlay ws P)
    → IsBeforeOrAfter J n ws P c → OpensDeskOf was sectors d c ⊎ OpensDeskOf then sectors next c
opens_desks sectors J n ws P d next c whole holds holds_then sound sound_then is = search rules

-- pages with a root and free pages hold one desk at most
pub one_desk : DeskIsOne → (new other : Bool) (n : ℕ) (P : Image) (root : ℕ) (free : List ℕ) (d e : Desk) → n ≤ 2 ^ 32 → HoldsDeskOf new n P root free d → HoldsDeskOf other n P root free e → d ≡ e
one_desk is_one new other n P root free d e few holds also =
    let same : holds.m ≡ also.m = one_map n P root free holds.m also.m few holds.holds also.holds in
    is_one also.m d e (subst (λ (m : KeyMap). IsDesk m d) same holds.is.desk) also.is.desk
