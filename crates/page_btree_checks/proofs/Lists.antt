-- The list of free pages, read one after the other.
use Rattle.std.proofs.Common.{rules, ◌≡◌, ◌⊎◌, ◌<◌, ◌+◌, ℕ, zero, suc, List, [], ◌∷◌, ◌++◌, length, inl, inr, ⊎_elim, refl, sym, ap, subst, ◌∙◌, arith, add-one}
use Rattle.{gate_journal.specs.claim.Store.word, page_btree_checks.specs.Owners.{linked, after, IsSeen, IsBlank, CanName, AreNamed, IsFreeList, CanList}}
use Rattle.{page_btree_checks.specs.declared.marks.Marks.Marks, page_store.specs.claim.Chain.{is_blank, chain, IsIn, AreFree}, sector_device.specs.claim.Disk.Image}
use Rattle.{page_btree_checks.proofs.Named.{named_more, named_as}, page_btree_gets.proofs.Placed.{in_one, both_free}, page_store.proofs.Chains.{below_free, first_blank, counts}}

-- blank pages that are linked are the chain of free ones
pub blank_chain : (P : Image) (first count : ℕ) → ((q : ℕ) → IsIn q (linked P first count) → IsBlank (P q)) → chain P first count ≡ linked P first count
blank_chain P first zero blank = refl
blank_chain P first (suc count) blank =
    λ i. (counts (is_blank (P first)) first (blank first (inl refl))) i ∷ (blank_chain P (word (P first) 0) count (λ q there. blank q (inr there))) i

-- and those of a chain of free pages are blank
pub free_chain : (n : ℕ) (P : Image) (first count : ℕ) → AreFree n (chain P first count) → (q : ℕ) → IsIn q (linked P first count) → IsBlank (P q)
free_chain n P first zero free q there = absurd there
free_chain n P first (suc count) free q (inl is) = subst (λ (p : ℕ). IsBlank (P p)) (sym is) (first_blank n P first (suc count) (omega arith) free)
free_chain n P first (suc count) free q (inr there) = free_chain n P (word (P first) 0) count free.3 q there

linked_more : (P : Image) (first k : ℕ) → linked P first (suc k) ≡ linked P first k ++ after P first k ∷ []
linked_more P first zero = refl
linked_more P first (suc k) = ap (λ (l : List ℕ). first ∷ l) (linked_more P (word (P first) 0) k)

after_next : (P : Image) (first k : ℕ) → after P first (suc k) ≡ word (P (after P first k)) 0
after_next P first zero = refl
after_next P first (suc k) = after_next P (word (P first) 0) k

in_push : (q : ℕ) (qs : List ℕ) (p : ℕ) → IsIn q (qs ++ p ∷ []) → IsIn q qs ⊎ (q ≡ p)
in_push q qs p there = ⊎_elim (λ h. inl h) (λ one. ⊎_elim (λ e. inr e) (λ none. absurd none) one) (in_one q qs (p ∷ []) there)

in_prefix : (q : ℕ) (qs : List ℕ) (p : ℕ) → IsIn q qs ⊎ (q ≡ p) → IsIn q (qs ++ p ∷ [])
in_prefix q [] p (inl none) = absurd none
in_prefix q [] p (inr e) = inl e
in_prefix q (x ∷ qs) p (inl (inl e)) = inl e
in_prefix q (x ∷ qs) p (inl (inr there)) = inr (in_prefix q qs p (inl there))
in_prefix q (x ∷ qs) p (inr e) = inr (in_prefix q qs p (inr e))

free_push : (n : ℕ) (qs : List ℕ) (p : ℕ) → AreFree n qs → 0 < p → p < n → (IsIn p qs → ⊥) → AreFree n (qs ++ p ∷ [])
free_push n qs p free some lt off = both_free n qs (p ∷ []) free (some, lt, (λ none. none), tt) (λ q there one. ⊎_elim (λ e. off (subst (λ x. IsIn x qs) e there)) (λ none. none) one)

pub after_in : (P : Image) (first k count : ℕ) → k < count → IsIn (after P first k) (linked P first count)
after_in P first k zero lt = absurd (omega arith)
after_in P first zero (suc count) lt = inl refl
after_in P first (suc k) (suc count) lt = inr (after_in P (word (P first) 0) k count (omega arith))

after_off : (n : ℕ) (P : Image) (first k count : ℕ) → k < count → AreFree n (linked P first count) → IsIn (after P first k) (linked P first k) → ⊥
after_off n P first zero count lt free there = there
after_off n P first (suc k) zero lt free there = absurd (omega arith)
after_off n P first (suc k) (suc count) lt free (inl e) = free.2 (subst (λ q. IsIn q (linked P (word (P first) 0) count)) e (after_in P (word (P first) 0) k count (omega arith)))
after_off n P first (suc k) (suc count) lt free (inr there) = after_off n P (word (P first) 0) k count (omega arith) free.3 there

-- so many were read, and the next one is known
pub record AreListed (P : Image) (first k next : ℕ) (old new : Marks) : Type 0 where
  pub next_is : next ≡ after P first k
  pub named : AreNamed (λ q. IsIn q (linked P first k)) k old new
  pub free : IsSeen old 0 → AreFree (length old.seen.items) (linked P first k)
  pub blank : (q : ℕ) → IsIn q (linked P first k) → IsBlank (P q)

pub more_listed : (P : Image) (first k page next : ℕ) (old mid new : Marks) → AreListed P first k page old mid → AreNamed (λ q. q ≡ page) 1 mid new → next ≡ word (P page) 0 → IsBlank (P page) → AreListed P first (k + 1) next old new
more_listed P first k page next old mid new was named next_is blank =
    let here : page ≡ after P first k = was.next_is in
    let linked_is : linked P first k ++ page ∷ [] ≡ linked P first (suc k) = ap (λ (p : ℕ). linked P first k ++ p ∷ []) here ∙ sym (linked_more P first k) in
    rw add-one (record {
      next_is = next_is ∙ ap (λ (p : ℕ). word (P p) 0) here ∙ sym (after_next P first k);
      named = named_as (λ q. IsIn q (linked P first k) ⊎ (q ≡ page)) (λ q. IsIn q (linked P first (suc k))) (k + 1) (suc k) old new
          (λ q is. subst (IsIn q) linked_is (in_prefix q (linked P first k) page is))
          (λ q is. in_push q (linked P first k) page (subst (IsIn q) (sym linked_is) is))
          (add-one k)
          (named_more (λ q. IsIn q (linked P first k)) (λ q. q ≡ page) k 1 old mid new was.named named);
      free = λ seen. subst (AreFree (length old.seen.items)) linked_is
          (free_push (length old.seen.items) (linked P first k) page (was.free seen)
          (let off : page ≡ 0 → ⊥ = λ none. named.fresh page refl (was.named.kept page (subst (IsSeen old) (sym none) seen)) in omega arith)
          (subst (λ n. page < n) was.named.long (named.within page refl))
          (λ there. named.fresh page refl (was.named.here page there)));
      blank = λ q is. search (rules, in_push);
    })

-- all of them
pub all_listed : (P : Image) (first k count next : ℕ) (old new : Marks) → AreListed P first k next old new → k ≡ count → next ≡ 0 → IsFreeList P first count old new
all_listed P first k count next old new was all ends = search rules

-- one that could be listed can be named
pub can_name : (P : Image) (first k count page : ℕ) (old mid : Marks) → AreListed P first k page old mid → k < count → CanList P first count old → CanName page mid × IsBlank (P page)
can_name P first k count page old mid was lt can = search (rules, after_in P first k count lt, below_free, after_off)

pub ends_with : (P : Image) (first k count next : ℕ) (old new : Marks) → AreListed P first k next old new → k ≡ count → CanList P first count old → next ≡ 0
ends_with P first k count next old new was all can = was.next_is ∙ ap (λ n. after P first n) all ∙ can.ends
