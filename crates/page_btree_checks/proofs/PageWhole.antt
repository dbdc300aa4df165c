-- All pages of a store.
use Rattle.std.{specs.{FinMap.empty, Prelude.None}, proofs.Common.{rules, ◌≡◌, ◌<◌, ◌≤◌, ◌^◌, ℕ, [], length, inl, inr, refl, sym, ap, subst, ◌∙◌, arith, List}}
use Rattle.{gate_journal.specs.claim.Store.word, page_btree_checks.specs.{Faults.IsWrongPage, declared.{error.PageFaultKind.TheVariants.Lost, marks.Marks.Marks}}}
use Rattle.{page_btree_checks.specs.Owners.{CanName, linked, AreOwned, IsSeen, AreNamed, IsFreeList, CanList, IsRootWalked, CanWalkRoot}, page_store.specs.declared.txn.Txn.Txn}
use Rattle.{page_btree_gets.specs.claim.Tree.{owns, size}, page_store.specs.claim.{Chain.{IsIn, AreFree, root_in, free_in}, Transactions.{stored, disk_in, over, IsQuiet}}}
use Rattle.{page_store.specs.declared.pages.Pages.Pages, sector_device.specs.{claim.Disk.Image, declared.SectorDevice.Ghosts}, page_btree_gets.proofs.Descent.owns_page}
use Rattle.{page_btree_checks.proofs.{Lists.{blank_chain, free_chain}, Rising.{map_of_tree, rows_of_map}}, page_btree_gets.proofs.MapLaws.{no_entries, one_tree}}
use Rattle.page_store.proofs.Chains.{length_chain, below_free}

pub some_pages : (n : ℕ) (P : Image) → AreOwned n P → 0 < n
some_pages n P (m, own) = search arith

-- page 0 was named, then the free pages, then those of the tree
module _ (n : ℕ) (P : Image) (a b c d : Marks) (long : length a.seen.items ≡ n) (none : (q : ℕ) → IsSeen a q → ⊥) (left : a.left ≡ n)
    (meta : AreNamed (λ q. q ≡ 0) 1 a b) where
  -- why they can be named
  pub can_list : AreOwned n P → CanList P (word (P 0) 1) (word (P 0) 2) b
  can_list (m, own) = search (arith, free_chain n P (word (P 0) 1) (word (P 0) 2) own.holds.free_are, blank_chain, below_free)

  module _ (list : IsFreeList P (word (P 0) 1) (word (P 0) 2) b c) where
    seen_meta : IsSeen c 0
    seen_meta = list.named.kept 0 (meta.here 0 refl)

    names_are : free_in P ≡ linked P (word (P 0) 1) (word (P 0) 2)
    names_are = blank_chain P (word (P 0) 1) (word (P 0) 2) list.blank

    free_are : AreFree n (free_in P)
    free_are = subst (AreFree n) (sym names_are) (subst (λ k. AreFree k (linked P (word (P 0) 1) (word (P 0) 2))) (meta.long ∙ long) (list.free (meta.here 0 refl)))

    pub can_root : AreOwned n P → CanWalkRoot P (root_in P) c
    can_root (m, own) = elim own.holds.held [
      | inl bare ↦ inl bare.root_is
      | inr r ↦
          let fresh : (q : ℕ) → owns r.tree q → CanName q c = λ q owned. (
            (let lt = (r.sound.below q owned).1 in let x = list.named.long in let y = meta.long in omega arith),
            λ seen. elim (list.named.only q seen) [
              | inl there ↦ r.sound.used q owned (subst (IsIn q) (sym names_are) there)
              | inr before ↦ elim (meta.only q before) [
                | inl e ↦ (let some = (r.sound.below q owned).0 in absurd (omega arith))
                | inr first ↦ none q first
              ]
            ],
          ) in
          inr (r.level, r.few, search rules)
    ]

    module _ (walked : IsRootWalked P (root_in P) c d) where
      free_long : length (free_in P) ≡ word (P 0) 2
      free_long = length_chain P (word (P 0) 1) (word (P 0) 2)

      pub are_owned : d.left ≡ 0 → AreOwned n P
      are_owned all = elim walked [
        | inl none_is ↦ (empty, search (arith, free_are, no_entries, free_long))
        | inr w ↦
            let below : (q : ℕ) → owns w.2.tree q → (0 < q) × (q < n) = λ q owned. (
              (let off : q ≡ 0 → ⊥ = λ e. w.2.named.fresh q owned (subst (IsSeen c) (sym e) seen_meta) in omega arith),
              (let lt = w.2.named.within q owned in let x = list.named.long in let y = meta.long in omega arith),
            ) in
            let used : (q : ℕ) → owns w.2.tree q → IsIn q (free_in P) → ⊥ = λ q owned there. w.2.named.fresh q owned (list.named.here q (subst (IsIn q) names_are there)) in
            (map_of_tree w.2.tree, search (arith, free_are, rows_of_map P w.0 [] None w.2.tree w.2.stands, free_long))
      ]

      -- one that wasn't named is lost
      pub is_lost : (p : ℕ) → p < length d.seen.items → (IsSeen d p → ⊥) → IsWrongPage n P p Lost
      is_lost p within off = search (arith, kept_by walked)
        where
          kept_by : IsRootWalked P (root_in P) c d → (q : ℕ) → IsSeen c q → IsSeen d q
          kept_by (inl none_is) q seen = subst (λ (k : Marks). IsSeen k q) (sym none_is.1) seen
          kept_by (inr w) q seen = w.2.named.kept q seen

      -- where one is lost they weren't
      pub none_lost : n ≤ 2 ^ 32 → AreOwned n P → d.left ≡ 0
      none_lost few (m, own) =
          let x = meta.count_is in let y = list.named.count_is in let z = free_long in
          elim walked [
            | inl none_is ↦ search rules
            | inr w ↦ (
                elim own.holds.held [
                  | inl bare ↦ absurd (w.2.named.fresh 0 (subst (owns w.2.tree) (w.2.page_is ∙ bare.root_is) (owns_page w.2.tree)) seen_meta)
                  | inr r ↦ (
                      let same : w.2.tree ≡ r.tree = one_tree P w.0 r.level [] [] None None w.2.tree r.tree
                      (λ q owned. let lt = w.2.named.within q owned in let u = list.named.long in let v = meta.long in omega arith)
                      (λ q owned. let lt = (r.sound.below q owned).1 in omega arith) w.2.stands r.stands (w.2.page_is ∙ sym r.root_is) in
                      let sizes : size w.2.tree ≡ size r.tree = ap size same in
                      let whole = r.whole in omega arith)
                ])
          ]

-- ---- what was listed and walked from the words of page 0, told of the pages as they were before it was read
module _ {D : Type 0} {g : Ghosts D} (t : Txn) {a b c : Pages D g} {header : List ℕ} {first count : ℕ} {named listed : Marks} (read : IsQuiet a b) (lists : IsQuiet b c) (header_is : (disk_in b).is_honest → header ≡ over t (stored a) 0) (first_is : first ≡ word header 1) (count_is : count ≡ word header 2) (free : (disk_in c).is_honest → IsFreeList (over t (stored b)) first count named listed) where
  pub list_there : (disk_in c).is_honest → IsFreeList (over t (stored a)) (word (over t (stored a) 0) 1) (word (over t (stored a) 0) 2) named listed
  list_there honest = let before = lists.honest honest in rw (read.same before, first_is, count_is, header_is before) at (free honest)

  pub walked_there : {d : Pages D g} {root : ℕ} {walked : Marks} → IsQuiet c d → root ≡ word header 0 → ((disk_in d).is_honest → IsRootWalked (over t (stored c)) root listed walked) → (disk_in d).is_honest
      → IsFreeList (over t (stored a)) (word (over t (stored a) 0) 1) (word (over t (stored a) 0) 2) named listed × IsRootWalked (over t (stored a)) (root_in (over t (stored a))) listed walked
  walked_there walks root_is tree honest = search rules
