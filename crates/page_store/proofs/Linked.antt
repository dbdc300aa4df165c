-- Pages that are linked, one to the next: the free pages of a new store.
use Rattle.std.proofs.{Common.{rules, ⊎_elim, true, ◌≡◌, ◌<◌, ◌≤◌, ◌+◌, ◌-◌, ℕ, zero, suc, List, length, refl, ap, subst, ◌∙◌, arith}, lemmas.Bool.{cases_eq, Decides.nat_tests}}
use Rattle.{gate_journal.specs.claim.Store.{word, put}, page_store.specs.{Chain.IsMeta, New.{next_of, AreLinked}, claim.Chain.{is_blank, chain, free_in, IsIn, AreFree, IsPages}}}
use Rattle.{sector_device.specs.claim.Disk.Image, gate_journal.proofs.Images.{put_on, put_off}, page_store.proofs.Chains.{length_chain, counts, chain_kept, free_is, meta_pages}}

pub next_is : (n k : ℕ) → k + 1 < n → next_of n k ≡ k + 1
next_is n k lt = grind (arith, nat_tests)

-- they are free, and none is before the first
linked_free : (n : ℕ) (P : Image) (first k m : ℕ) → k + m ≡ n → 0 < k → (0 < m → first ≡ k) → AreLinked n P 1 n
    → AreFree n (chain P first m) × ((q : ℕ) → IsIn q (chain P first m) → k ≤ q)
linked_free n P first k zero whole some is linked = (tt, λ q none. absurd none)
linked_free n P first k (suc m) whole some is linked =
    let at = linked k (omega arith) (omega arith) (omega arith) in
    let rest = linked_free n P (word (P k) 0) (k + 1) m (omega arith) (omega arith) (λ more. at.0 ∙ next_is n k (omega arith)) linked in
    let own = counts (is_blank (P k)) k at.1 in
    rw (is (omega arith), own) (
      (some, omega arith, λ there. let later = rest.1 k there in omega arith, rest.0),
      λ q there. ⊎_elim (λ (e : q ≡ k). omega arith) (λ (deep : IsIn q (chain P (word (P k) 0) m)). let later = rest.1 q deep in omega arith) there,
    )

-- one link more
pub linked_more : (n : ℕ) (P Q : Image) (from p : ℕ) (link : List ℕ) → ((q : ℕ) → Q q ≡ put (p, link) P q) → word link 0 ≡ next_of n p → is_blank link ≡ true → AreLinked n P from p → AreLinked n Q from (p + 1)
linked_more n P Q from p link is next blank linked q ge lt below = search (rules, cases_eq, put_on, put_off)

-- pages that are all linked, under the meta page of a new store: those after the root are free
pub record AreNew (n root : ℕ) (Q : Image) : Type 0 where
  pub sound : IsPages n Q
  pub whole : length (free_in Q) + 1 + root ≡ n
  pub after : (q : ℕ) → IsIn q (free_in Q) → root < q

pub new_pages : (n root : ℕ) (P Q : Image) → root + 1 < n → AreLinked n P 1 n → ((q : ℕ) → root < q → Q q ≡ P q) → IsMeta Q root (root + 1) (n - 1 - root) → AreNew n root Q
new_pages n root P Q some linked same meta =
    let chained = linked_free n P (root + 1) (root + 1) (n - 1 - root) (omega arith) (omega arith) (λ _. refl) linked in
    let later : (q : ℕ) → IsIn q (chain P (root + 1) (n - 1 - root)) → root < q = λ q there. let from = chained.1 q there in omega arith in
    let free = free_is Q root (root + 1) (n - 1 - root) meta ∙ chain_kept n P Q (root + 1) (n - 1 - root) chained.0 (λ q there. same q (later q there)) in
    record {
      sound = meta_pages n Q root (root + 1) (n - 1 - root) _ meta (omega arith) (omega arith) (omega arith) free chained.0;
      whole = omega (arith, ap (λ (qs : List ℕ). length qs) free, length_chain P (root + 1) (n - 1 - root));
      after = λ q there. later q (subst (λ (qs : List ℕ). IsIn q qs) free there);
    }
