-- What a transaction that is begun reads, and how many pages are free in it.
use Rattle.{std.{specs.Prelude.◌⊎◌, proofs.{Common.{◌≡◌, ◌*◌, ◌≤◌, ◌<◌, ℕ, length, sym, subst, arith}, lemmas.Bool.cases_lt}}, desk_store_rows.specs.claim.Rows.KeyMap}
use Rattle.{geo_tables.specs.Starting.IsStarted, page_btree.specs.gets.claim.Map.{Holds, InTxn, InPages}, page_store.specs.{Transactions.txn_first, claim.Chain.{free_in, root_in}}}
use Rattle.page_store.specs.{claim.Transactions.{stored, disk_in, count_of, journal_of, txn_pages, txn_root, txn_free, over, free_over}, declared.{pages.Pages.Pages, txn.Txn.Txn}}
use Rattle.{sector_device.specs.{claim.Disk.Image, declared.SectorDevice.Ghosts}, page_store.proofs.Chains.length_chain}
use Rattle.page_btree.proofs.gets.MapLaws.{begun_holds}

pub free_count : (t : Txn) (P : Image) → length (free_over t P) ≡ txn_free t
free_count t P = length_chain (over t P) (txn_first t) (txn_free t)

module _ {D : Type 0} {g : Ghosts D} (ps : Pages D g) (t : Txn) (count : txn_pages t ≡ count_of ps) where
  pub reads_rows : ((q : ℕ) → over t (stored ps) q ≡ stored ps q) → txn_root t ≡ root_in (stored ps) → free_over t (stored ps) ≡ free_in (stored ps) → (m : KeyMap) → InPages ps m → InTxn t (stored ps) m
  reads_rows same root free m holds = begun_holds t (stored ps) m (subst (λ (n : ℕ). Holds n (stored ps) (root_in (stored ps)) (free_in (stored ps)) m) (sym count) holds) same root free

-- one of them is too few
pub short_of : {D : Type 0} {g : Ghosts D} (ps : Pages D g) (t : Txn) (rows : ℕ) → IsStarted 0 ps t → ((13 * rows ≤ txn_free t) × (13 * rows ≤ journal_of ps) → ⊥) → (journal_of ps < 13 * rows) ⊎ ((disk_in ps).is_honest → length (free_in (stored ps)) < 13 * rows)
short_of ps t rows started none = search (arith, cases_lt, started.count, none)
