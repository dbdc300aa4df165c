-- Fingers before and after an edit of a leaf.
use Rattle.std.{specs.{FinMap.{find, get}, Ordering.is_gt, Prelude.Option}, proofs.Common.{rules, ◌∙◌, ◌≡◌, ◌≢◌, ◌<◌, ◌≤◌, ◌^◌, ℕ, List, false, refl, sym, ap, subst}}
use Rattle.page_btree_gets.specs.{Getting.{CanGet, CanGetAt, CanGetIn}, Leading.{LeadsTo, LeadsAll, end_of}, claim.{Errors.level_in, Keys.{KeyMap, IsBetween}}, node.Entries.key_at}
use Rattle.page_btree_gets.specs.{claim.Map.{Holds, IsRooted}, node.{Searching.IsBelow, claim.{Entries.Entry, Node.{Node, IsNode}, Places.{key_cmp, Rises}}}}
use Rattle.{page_btree_gets.specs.node.declared.{edit.RowPut.RowPut, search.RowNear.RowNear}, page_btree_puts.specs.{Fingers.{IsPlaced, StandsIn, IsReached}, Fitting.IsLeafPut}}
use Rattle.{page_btree_puts.specs.declared.finger.Finger.Finger, page_store.specs.{claim.Transactions.{txn_pages, txn_root, over, free_over}, declared.txn.Txn.Txn}}
use Rattle.{sector_device.specs.claim.Disk.Image, page_btree_gets.proofs.{Leads.leads_leaf, Reaching.{root_level, leads_stays, level_stays, leads_found}, Rows.less_from}}
use Rattle.{page_btree_gets.proofs.{Seeking.lower_of, Tops.{rooted, can_get, at_root, found_rows}}, page_btree_puts.proofs.Leads.IsPutAt}
use Rattle.page_btree_gets.proofs.node.Laws.{node_unique}

-- each key before a place is below one, and so below those after it
pub further : (low key : List ℕ) (es : List Entry) (k at : ℕ) → is_gt (key_cmp low key) ≡ false → IsBelow low es k at → IsBelow key es k at
further low key es k at from below = (below.0, λ rises j less. less_from (key_at es j) low key (below.1 rises j less) from)

-- the leaf of a finger that stands is that of each key within its reach
pub reached_known : (t : Txn) (S : Image) (f : Finger) (root : ℕ) (key : List ℕ) → root ≡ txn_root t → IsBetween f.low (end_of f.reach) key → IsPlaced t S f → IsReached t S root key f
reached_known t S f root key root_is between placed =
    let P = over t S in
    let all : LeadsAll P (level_in P root) root f.low (end_of f.reach) f.page = subst (λ (r : ℕ). LeadsAll P (level_in P r) r f.low (end_of f.reach) f.page) (sym root_is) placed.leads in
    record {
      leads = λ d can. subst (λ (k : ℕ). LeadsTo P k root key f.page) (root_level (txn_pages t) P d key root can) (all key between);
      all = λ other it. all other (record { from = lower_of f.low key other (key_cmp f.low key) refl between.from it.from; under = it.under });
      after = λ es is. further f.low key es f.near.k f.near.at between.from (placed.after es is);
    }

-- ---- an edit of a leaf
module _ (n : ℕ) (S : Image) (t0 t1 : Txn) (root : ℕ) (m : KeyMap) (few : n ≤ 2 ^ 32) (holds : Holds n (over t0 S) root (free_over t0 S) m) (some : root ≢ 0) where
  r : IsRooted n (over t0 S) root (free_over t0 S) m
  r = rooted n (over t0 S) root (free_over t0 S) m holds some

  can_at : (key : List ℕ) → CanGetAt n (over t0 S) r.level key root
  can_at key = (can_get n (over t0 S) root (free_over t0 S) m r key (over t0 S root) r.level refl refl, at_root n (over t0 S) root (free_over t0 S) m r r.level refl)

  -- the leaf that was reached
  pub leaf_there : (key : List ℕ) (leaf : ℕ) → ((d : ℕ) → CanGetAt n (over t0 S) d key root → LeadsTo (over t0 S) d root key leaf) → (es : List Entry) × IsNode (over t0 S leaf) (record { level = 0; entries = es }) × Rises es
  leaf_there key leaf leads = leads_leaf n (over t0 S) r.level key root leaf few (can_at key).0 (leads r.level (can_at key))

  module _ (leaf : ℕ) (es fs : List Entry) (before : IsNode (over t0 S leaf) (record { level = 0; entries = es })) (after : IsNode (over t1 S leaf) (record { level = 0; entries = fs })) (same : (q : ℕ) → q ≢ leaf → over t1 S q ≡ over t0 S q) where
    pub all_stays : (low : List ℕ) (high : Option (List ℕ)) (page : ℕ) → LeadsAll (over t0 S) (level_in (over t0 S) root) root low high page → LeadsAll (over t1 S) (level_in (over t1 S) root) root low high page
    all_stays low high page all = λ key between.
        let P = over t0 S in
        let Q = over t1 S in
        let is : level_in P root ≡ r.level = root_level n P r.level key root (can_at key) in
        subst (λ (d : ℕ). LeadsTo Q d root key page) (sym (level_stays P Q root leaf es fs before after same))
        (leads_stays n P Q (level_in P root) key root leaf page es few (subst (λ (d : ℕ). CanGet n P d key (P root)) (sym is) (can_at key).0) before same (all key between))

    -- a finger at another leaf stands
    pub other_stays : (other : Finger) → other.page ≢ leaf → root ≡ txn_root t0 → root ≡ txn_root t1 → StandsIn t0 S other → StandsIn t1 S other
    other_stays other differs root0 root1 stands some_page = search (rules, all_stays)

    -- and the finger that was reached stands at the row
    pub row_stands : (f : Finger) (key : List ℕ) → f.page ≡ leaf → f.low ≡ key → root ≡ txn_root t1 → LeadsAll (over t0 S) (level_in (over t0 S) root) root key (end_of f.reach) leaf → IsBelow key fs f.near.k f.near.at → StandsIn t1 S f
    row_stands f key page_is low_is root1 all later some_page =
        record {
          leads = search (rules, all_stays);
          after = λ gs is.
              let there : IsNode (over t1 S leaf) (record { level = 0; entries = gs }) = subst (λ (p : ℕ). IsNode (over t1 S p) (record { level = 0; entries = gs })) page_is is in
              let same_rows : fs ≡ gs = ap (λ (x : Node). x.entries) (node_unique (over t1 S leaf) (record { level = 0; entries = fs }) (record { level = 0; entries = gs }) after there) in
              subst (λ k. IsBelow k gs f.near.k f.near.at) (sym low_is) (subst (λ l. IsBelow key l f.near.k f.near.at) same_rows later);
        }

-- a put into a leaf that was reached
pub put_at : (t0 t1 : Txn) (S : Image) (page : ℕ) (from : RowNear) (key value : List ℕ) (did : RowPut) → ((es : List Entry) → IsNode (over t0 S page) (record { level = 0; entries = es }) → IsBelow key es from.k from.at) → IsLeafPut t0 t1 S page from key value did → IsPutAt t0 t1 S page key value did.had
put_at t0 t1 S page from key value did later put = λ es is rises n are off.
    let done = put es is rises (later es is) in
    (done.0, record { holds = done.1; elsewhere = done.3; none = done.4 n are off })

-- ---- a look-up in a known leaf
pub known_found : (t : Txn) (S : Image) (m : KeyMap) (f : Finger) (key : List ℕ) → txn_pages t ≤ 2 ^ 32 → Holds (txn_pages t) (over t S) (txn_root t) (free_over t S) m → txn_root t ≢ 0 → f.page < txn_pages t → IsBetween f.low (end_of f.reach) key → IsPlaced t S f
    → (can : CanGetIn (txn_pages t) (over t S) f.page f.near key) × (find key_cmp key can.0 ≡ get m key)
known_found t S m f key few holds some below between placed =
    let root = txn_root t in
    let r = rooted _ _ _ _ m holds some in
    let at : CanGetAt (txn_pages t) (over t S) r.level key root = (can_get _ _ _ _ m r key (over t S root) r.level refl refl, at_root _ _ _ _ m r r.level refl) in
    let leads : LeadsTo (over t S) r.level root key f.page = subst (λ (k : ℕ). LeadsTo (over t S) k root key f.page) (root_level _ _ r.level key root at) (placed.leads key between) in
    let leaf = leads_leaf _ _ r.level key root f.page few at.0 leads in (
      search (further, f.near.k, placed.after),
      leads_found _ _ r.level key root f.page leaf.0 few at.0 leads leaf.1 ∙ found_rows _ _ _ _ m r key,
    )
