-- What formatting leaves.
use Rattle.std.proofs.{Common.{rules, Result, Ok, Err, OnOk, ⊎_elim, ◌≡◌, ◌≢◌, ◌<◌, ◌+◌, ◌-◌, ℕ, List, refl, sym, ap, subst, ◌∙◌, arith}, lemmas.Bool.cases_lt}
use Rattle.{gate_journal.specs.{Recovery.HasRoom, Steps.Commits, Store.IsSettled, claim.Store.{overlay, put, pages}}, page_store.specs.{Chain.IsMeta, Openings.AllPageStores}}
use Rattle.{page_store.specs.{New.{AreLinked, IsNew, IsNewWith, IsLinked, Links}, claim.Chain.{IsIn, IsPages, root_in, free_in}}, sector_device.specs.claim.Disk.{Disk, Image}}
use Rattle.{gate_journal.proofs.{Commit.settled_opens, Images.{put_on, put_off}}, page_store.proofs.Linked.{AreNew, new_pages}}

-- the same meta page
same_meta : (P Q : Image) (root first count : ℕ) → Q 0 ≡ P 0 → IsMeta P root first count → IsMeta Q root first count
same_meta P Q root first count same meta = search rules

module _ {T E : Type 0} {J K n sectors : ℕ} {d e : Disk} (x : T) (ws : List (ℕ × List ℕ)) (layout : (J ≡ K) × HasRoom sectors J n) (same : e.sectors ≡ sectors) (linked : d.is_honest → IsLinked J n d) (done : Commits {E = E} J n ws d e (Ok x)) where
  -- pages of a new store, also in each image that a stop then leaves
  made : (root : ℕ) → root + 1 < n → IsMeta (overlay ws (pages J d.reads)) root (root + 1) (n - 1 - root)
      → ((q : ℕ) → root < q → overlay ws (pages J d.reads) q ≡ pages J d.reads q)
      → AreNew n root (pages J e.reads) × (root_in (pages J e.reads) ≡ root) × AllPageStores e
  made root some meta others =
      let new : AreNew n root (pages J e.reads) = subst (λ (X : Image). AreNew n root X) (sym done.after)
      (new_pages n root (pages J d.reads) (overlay ws (pages J d.reads)) some (linked done.was_honest).linked others meta) in (
        new,
        ap (λ (X : Image). root_in X) done.after ∙ meta.root_is,
        λ c leaves. let opens = settled_opens J n e done.settled c leaves in record {
          J = J;
          n = n;
          whole = layout.1.whole ∙ sym same;
          store = opens.store;
          pages = subst (λ (X : Image). IsPages n X) (λ i p. (sym (opens.each p)) i) new.sound;
        },
      )

  pub new_store : ((P : Image) → IsMeta (overlay ws P) 0 1 (n - 1 - 0)) → ((P : Image) (q : ℕ) → q ≢ 0 → overlay ws P q ≡ P q) → IsNew K e
  new_store meta others =
      let room = layout.1 in
      let new = made 0 (omega arith) (meta (pages J d.reads)) (λ q later. others (pages J d.reads) q (λ is. omega arith)) in
      let whole = layout.1.whole ∙ sym same in
      let settled : IsSettled J n e = done.settled in
      subst (λ (k : ℕ). IsNew k e) layout.0 (search rules)

  -- with bytes on page 1, which is the root
  pub new_store_with : (vs : List (ℕ × List ℕ)) (bytes : List ℕ) → ((P : Image) → IsMeta (overlay vs P) 1 2 (n - 1 - 1)) → ((P : Image) (q : ℕ) → q ≢ 0 → overlay vs P q ≡ P q)
      → ((P : Image) (q : ℕ) → overlay ws P q ≡ put (1, bytes) (overlay vs P) q) → IsNewWith K bytes e
  new_store_with vs bytes meta others written =
      let room = layout.1 in
      let P = pages J d.reads in
      let was = overlay vs P in
      let under : overlay ws P 0 ≡ was 0 = written P 0 ∙ put_off (1, bytes) was 0 (λ is. omega arith) in
      let rest : (q : ℕ) → 1 < q → overlay ws P q ≡ P q = λ q later. written P q ∙ put_off (1, bytes) was q (λ is. omega arith) ∙ others P q (λ is. omega arith) in
      let new = made 1 (omega arith) (same_meta was (overlay ws P) 1 2 (n - 1 - 1) under (meta P)) rest in
      let whole = layout.1.whole ∙ sym same in
      let settled : IsSettled J n e = done.settled in
      let there : pages J e.reads 1 ≡ bytes = ap (λ (X : Image). X 1) done.after ∙ written P 1 ∙ put_on (1, bytes) was 1 refl in
      let used : IsIn 1 (free_in (pages J e.reads)) → ⊥ = λ used. let late = new.0.after 1 used in omega arith in
      subst (λ (k : ℕ). IsNewWith k bytes e) layout.0 (search rules)

-- a commit that links a batch
pub linked_batch : {T E : Type 0} (J n from to : ℕ) (a d : Disk) (ws : List (ℕ × List ℕ)) (r : Result T E) → ((q : ℕ) → q < from + 256 → q < n → q < to) → ((q : ℕ) → q < from → overlay ws (pages J a.reads) q ≡ pages J a.reads q)
    → AreLinked n (overlay ws (pages J a.reads)) from to → Commits J n ws a d r → OnOk r (Links J n from a d)
linked_batch J n from to a d ws (Err e) all others linked done = tt
linked_batch J n from to a d ws (Ok x) all others linked done = record {
  passed = done.cause.passed;
  settled = done.settled;
  linked = λ before. subst (λ (X : Image). AreLinked n X 1 (from + 256)) (sym done.after)
      (λ q ge lt below. ⊎_elim (λ (early : q < from). search rules) (λ late. linked q late (all q lt below) below) (cases_lt q from));
}
