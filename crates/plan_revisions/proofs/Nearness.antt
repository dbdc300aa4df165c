-- A step is refused for the depth of the stored tree alone, where the transaction was begun over it.
use Rattle.{std.proofs.Common.{◌≡◌, ◌<◌, ◌≤◌, ℕ, false}, desk_store_pages.specs.claim.Puts.IsStoredNear, page_btree.specs.gets.claim.Errors.level_in}
use Rattle.page_store.specs.{Calls.BeginsOver, claim.{Chain.root_in, Transactions.{stored, disk_in, has_halted}}, declared.{pages.Pages.Pages, txn.Txn.Txn}}
use Rattle.{plan_revisions.specs.claim.Steps.IsDeep, sector_device.specs.declared.SectorDevice.Ghosts, desk_store_pages.proofs.Nearness.{begun_near, never_stored_near}}

module _ {D : Type 0} {g : Ghosts D} (t : Txn) (ps : Pages D g) (begun : BeginsOver ps t) (works : has_halted ps ≡ false) (honest : (disk_in ps).is_honest) where
  -- so many rows could bring the stored tree to the end of its sixth level
  pub deep_near : (rows : ℕ) → IsDeep rows t ps → IsStoredNear rows ps
  deep_near rows deep = begun_near rows t ps begun works honest deep.near

  -- a stored tree of five levels at most isn't too deep for fewer than 50 rows
  pub never_deep : (rows : ℕ) → level_in (stored ps) (root_in (stored ps)) ≤ 4 → rows < 50 → IsDeep rows t ps → ⊥
  never_deep rows low few deep = never_stored_near rows ps low few (deep_near rows deep)
