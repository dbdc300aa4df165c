-- Lists of free pages, followed page by page.
use Rattle.std.proofs.{Common.{◌≡◌, ◌<◌, ◌+◌, ℕ, Bool, true, false, zero, suc, cond, refl, sym, ap, subst, ◌∙◌, arith}, Math.Numerals.add-one}
use Rattle.{desk_store_opening.specs.Held.{FollowErr, IsHeld}, page_btree.specs.{checks.Owners.{after, AreOwned}, gets.{Errors.tree_error, declared.error.TreeError.TreeError}}}
use Rattle.page_store.specs.{claim.{Chain.{chain, is_blank, AreFree}, Transactions.{stored, disk_in, count_of, txn_pages, over, ReadErr, IsQuiet, Passed}}, declared.txn.Txn.Txn}
use Rattle.{page_store.specs.{declared.pages.Pages.Pages, gate_journal.{claim.Store.word, declared.error.PageError.PageError}}, sector_device.specs.claim.Disk.Image}
use Rattle.{sector_device.specs.declared.SectorDevice.Ghosts, page_store.proofs.Stops.failed_more}
use Rattle.page_store.specs.gate_journal.declared.error.PageError.TheVariants as page
use Rattle.page_btree.specs.gets.declared.error.TreeError.TheVariants as tree

-- the page after one more
after_suc : (P : Image) (first k : ℕ) → after P first (suc k) ≡ word (P (after P first k)) 0
after_suc P first zero = refl
after_suc P first (suc k) = after_suc P (word (P first) 0) k

pub after_next : (P : Image) (first k : ℕ) → after P first (k + 1) ≡ word (P (after P first k)) 0
after_next P first k = ap (after P first) (add-one k) ∙ after_suc P first k

first_within : (n first : ℕ) (blank : Bool) → 0 < cond blank first 0 → cond blank first 0 < n → first < n
first_within n first true some below = below
first_within n first false some below = omega (arith, some)

-- each page of a list of free pages is there
pub after_within : (n : ℕ) (P : Image) (first count k : ℕ) → k < count → AreFree n (chain P first count) → after P first k < n
after_within n P first zero k few free = omega (arith, few)
after_within n P first (suc count) zero few free = first_within n first (is_blank (P first)) free.0 free.1
after_within n P first (suc count) (suc k) few free = after_within n P (word (P first) 0) count k (omega (arith, few)) free.3

-- pages that hold rows, and whose list of free pages ends, are owned
pub owned_from : (n : ℕ) (P : Image) → IsHeld n P → after P (word (P 0) 1) (word (P 0) 2) ≡ 0 → AreOwned n P
owned_from n P held ends = (held.0, record { holds = held.1; ends = ends })

module _ {D : Type 0} {g : Ghosts D} where
  -- a page that isn't read
  pub follow_unread : (t : Txn) (first count : ℕ) (a b : Pages D g) (e : PageError) → ReadErr a b e → FollowErr t first count a b (tree_error e)
  follow_unread t first count a b page.DeviceFault why = why
  follow_unread t first count a b page.Halted why = why
  follow_unread t first count a b _ why = absurd why

  -- after calls that passed
  pub follow_more : (t : Txn) (first count from number : ℕ) (a b c : Pages D g) → Passed a b → IsQuiet b c → ((disk_in c).is_honest → (first ≡ from) × (count ≡ number)) → (e : TreeError) → FollowErr t first count b c e
      → FollowErr t from number a c e
  follow_more t first count from number a b c passed quiet same tree.DeviceFault why = failed_more a b c passed quiet why
  follow_more t first count from number a b c passed quiet same tree.NotAStore why = λ honest free.
      let are = same honest in
      let here = subst (λ (P : Image). AreFree (txn_pages t) (chain (over t P) from number)) (sym (passed.quiet.same (quiet.honest honest))) free in
      let counted = subst (λ (k : ℕ). AreFree (txn_pages t) (chain (over t (stored b)) from k)) (sym are.1) here in
      why honest (subst (λ (p : ℕ). AreFree (txn_pages t) (chain (over t (stored b)) p count)) (sym are.0) counted)
  follow_more t first count from number a b c passed quiet same tree.Halted why = sym passed.halted ∙ why
  follow_more t first count from number a b c passed quiet same _ why = why

  -- what is so of pages is so of them after calls that read, and was so before
  pub then_so : (a b : Pages D g) (F : ℕ → Image → Type 0) → IsQuiet a b → (disk_in b).is_honest → F (count_of a) (stored a) → F (count_of b) (stored b)
  then_so a b F quiet honest is = subst (F (count_of b)) (sym (quiet.same honest)) (subst (λ (n : ℕ). F n (stored a)) (sym quiet.count) is)

  pub so_before : (a b : Pages D g) (F : ℕ → Image → Type 0) → IsQuiet a b → (disk_in b).is_honest → F (count_of b) (stored b) → F (count_of a) (stored a)
  so_before a b F quiet honest is = subst (F (count_of a)) (quiet.same honest) (subst (λ (n : ℕ). F n (stored b)) quiet.count is)
