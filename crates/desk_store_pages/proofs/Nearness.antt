-- A tree of few levels isn't deepened to a seventh by few rows.
use Rattle.{std.proofs.{Common.{◌≡◌, ◌<◌, ◌≤◌, ◌+◌, ℕ, zero, suc, false, subst, arith}, Math.Nat.{min-le_left, min-le_right}}, page_btree.specs.node.claim.Node.count_in}
use Rattle.{desk_store_pages.specs.claim.Puts.{IsNear, IsStoredNear}, page_btree.specs.gets.claim.Errors.{level_in, reach_at, reach_in, top_reach}}
use Rattle.page_store.specs.{Calls.BeginsOver, claim.{Chain.root_in, Transactions.{stored, disk_in, has_halted, txn_root, over}}, declared.{pages.Pages.Pages, txn.Txn.Txn}}
use Rattle.sector_device.specs.{claim.Disk.Image, declared.SectorDevice.Ghosts}

low_reach : (d e : ℕ) → d ≤ 4 → reach_at d e ≤ 251
low_reach zero e low = omega arith
low_reach (suc d) e low = let most = min-le_left 51 e in omega arith

thin_reach : (d e : ℕ) → 0 < d → d ≤ 5 → reach_at d e ≤ 250 + e
thin_reach zero e some low = absurd (omega (arith, some))
thin_reach (suc d) e some low = let most = min-le_right 51 e in omega arith

low_reach_in : (P : Image) (p : ℕ) → level_in P p ≤ 4 → reach_in P p ≤ 251
low_reach_in P zero low = omega arith
low_reach_in P (suc p) low = low_reach (level_in P (suc p)) (count_in (P (suc p))) low

thin_reach_in : (P : Image) (p e : ℕ) → 0 < level_in P p → level_in P p ≤ 5 → count_in (P p) ≤ e → reach_in P p ≤ 250 + e
thin_reach_in P zero e some low few = omega arith
thin_reach_in P (suc p) e some low few = let most = thin_reach (level_in P (suc p)) (count_in (P (suc p))) some low in omega (arith, most, few)

module _ {D : Type 0} {g : Ghosts D} where
  -- ---- the stored tree
  -- a transaction that was begun over the pages is as near as they are
  pub near_stored : (rows : ℕ) (t : Txn) (ps : Pages D g) → over t (stored ps) ≡ stored ps → txn_root t ≡ root_in (stored ps) → IsNear rows t ps → IsStoredNear rows ps
  near_stored rows t ps same root near =
      let both : ◌≡◌ {A = Image × ℕ} (over t (stored ps), txn_root t) (stored ps, root_in (stored ps)) = λ i. (same i, root i) in
      subst (λ (x : Image × ℕ). top_reach ≤ reach_in x.0 x.1 + rows) both near

  pub begun_near : (rows : ℕ) (t : Txn) (ps : Pages D g) → BeginsOver ps t → has_halted ps ≡ false → (disk_in ps).is_honest → IsNear rows t ps → IsStoredNear rows ps
  begun_near rows t ps begun works honest = near_stored rows t ps (λ i q. begun.over q i) (begun.root works honest)

  pub never_stored_near : (rows : ℕ) (ps : Pages D g) → level_in (stored ps) (root_in (stored ps)) ≤ 4 → rows < 50 → IsStoredNear rows ps → ⊥
  never_stored_near rows ps low few near = let most = low_reach_in (stored ps) (root_in (stored ps)) low in absurd (omega (arith, near, most, few))

  -- ---- a transaction's
  -- five levels, and fewer than 50 rows
  pub never_near : (rows : ℕ) (t : Txn) (old : Pages D g) → level_in (over t (stored old)) (txn_root t) ≤ 4 → rows < 50 → IsNear rows t old → ⊥
  never_near rows t old low few near = let most = low_reach_in (over t (stored old)) (txn_root t) low in absurd (omega (arith, near, most, few))

  -- six, whose root has few entries
  pub thin_not_near : (rows : ℕ) (t : Txn) (old : Pages D g) (e : ℕ) → 0 < level_in (over t (stored old)) (txn_root t) → level_in (over t (stored old)) (txn_root t) ≤ 5 → count_in (over t (stored old) (txn_root t)) ≤ e → e + rows < 51 → IsNear rows t old → ⊥
  thin_not_near rows t old e some low thin few near = let most = thin_reach_in (over t (stored old)) (txn_root t) e some low thin in absurd (omega (arith, near, most, few))
