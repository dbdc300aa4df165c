-- A transaction whose tree has six levels, whatever the pages: nothing that few rows could bring to a seventh.
use Rattle.{std.proofs.Common.{◌≡◌, ◌≢◌, ◌<◌, ◌+◌, ℕ, zero, suc, List, [], ◌∷◌, replicate, get_or, refl, arith, Global, sym, ◌∙◌}, desk_store_pages.specs.claim.Puts.IsNear}
use Rattle.{page_btree.specs.{gets.claim.Errors.level_in, node.claim.Node.count_in}, page_store.specs.{claim.Transactions.{over, stored, txn_root}, declared.pages.Pages.Pages}}
use Rattle.{page_store.specs.declared.txn.Txn.Txn, sector_device.specs.{claim.Disk.Image, declared.SectorDevice.Ghosts}, desk_store_pages.proofs.Nearness.thin_not_near}
use denote.RawPtr.{null_ptr}

abbrev link : ℕ → ℕ → List ℕ
link level child = level ∷ 0 ∷ 0 ∷ 1 ∷ 0 ∷ 0 ∷ 4 ∷ 0 ∷ 0 ∷ 0 ∷ child ∷ replicate 4085 0

abbrev last : List ℕ
last = 0 ∷ 0 ∷ 0 ∷ 1 ∷ 1 ∷ 0 ∷ 0 ∷ 65 ∷ replicate 4088 0

abbrev numbers : List ℕ
numbers = 1 ∷ 2 ∷ 3 ∷ 4 ∷ 5 ∷ 6 ∷ []

abbrev forged : List (ℕ × List ℕ)
forged = (1, link 5 2) ∷ (2, link 4 3) ∷ (3, link 3 4) ∷ (4, link 2 5) ∷ (5, link 1 6) ∷ (6, last) ∷ []

pub number_at : (k : ℕ) → k < 6 → get_or numbers k 0 ≡ k + 1
number_at zero less = refl
number_at (suc zero) less = refl
number_at (suc (suc zero)) less = refl
number_at (suc (suc (suc zero))) less = refl
number_at (suc (suc (suc (suc zero)))) less = refl
number_at (suc (suc (suc (suc (suc zero))))) less = refl
number_at (suc (suc (suc (suc (suc (suc k)))))) less = absurd (omega arith)

pub page_at : (k : ℕ) → k < 6 → (get_or forged k (0, [])).0 ≡ k + 1
page_at zero less = refl
page_at (suc zero) less = refl
page_at (suc (suc zero)) less = refl
page_at (suc (suc (suc zero))) less = refl
page_at (suc (suc (suc (suc zero)))) less = refl
page_at (suc (suc (suc (suc (suc zero))))) less = refl
page_at (suc (suc (suc (suc (suc (suc k)))))) less = absurd (omega arith)

pub apart : (j k : ℕ) → j < k → k < 6 → get_or numbers j 0 ≢ get_or numbers k 0
apart j k less within e = let a = number_at j (omega arith) in let b = number_at k within in absurd (omega arith)

pub within : (k : ℕ) → k < 6 → (get_or forged k (0, [])).0 < 7
within k less = let a = page_at k less in omega arith

abbrev pub forged_txn : Global → Txn
forged_txn a = record {
  writes = record {
    numbers = record { ptr = null_ptr; len = 6; cap = 6; alloc = a; items = numbers; ok = (refl, omega arith); small = omega arith };
    list = record { ptr = null_ptr; len = 6; cap = 6; alloc = a; items = forged; ok = (refl, omega arith); small = omega arith };
    beside = record { long = refl; each = λ k less. number_at k less ∙ sym (page_at k less) };
    once = apart;
  };
  pages = 7;
  root = 1;
  first = 0;
  free = 0;
  within = within;
  root_below = omega arith;
  first_below = omega arith;
  free_below = omega arith;
}

level_is : (P : Image) (a : Global) → level_in (over (forged_txn a) P) (txn_root (forged_txn a)) ≡ 5
level_is P a = refl

count_is : (P : Image) (a : Global) → count_in (over (forged_txn a) P (txn_root (forged_txn a))) ≡ 1
count_is P a = refl

-- the clause doesn't hold of it, whatever the pages, where fewer than 50 rows are put
pub forged_not_near : {D : Type 0} {g : Ghosts D} (a : Global) (rows : ℕ) (old : Pages D g) → rows < 50 → IsNear rows (forged_txn a) old → ⊥
forged_not_near a rows old few =
    let level = level_is (stored old) a in
    let count = count_is (stored old) a in
    thin_not_near rows (forged_txn a) old 1 (omega (arith, level)) (omega (arith, level)) (omega (arith, count)) (omega (arith, few))
