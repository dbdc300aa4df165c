-- A look-up goes on from a node that was lent to the child that a key belongs to.
use Rattle.std.{specs.Prelude.{Option, IfOk, Result, Err, IsErrAnd}, proofs.Common.{◌≡◌, ◌≢◌, ◌-◌, ◌≤◌, ◌^◌, ℕ, List, refl, sym, subst, ◌∙◌, arith}}
use Rattle.page_btree_gets.specs.{Getting.{CanGet, CanGetAt, IsChild, IsLevel, NoChild, LevelErr, GetAtErr}, Leading.{LeadsTo, LeadsAll}, claim.{Errors.GetErr, Keys.IsUnder}}
use Rattle.{page_btree_gets.specs.declared.error.TreeError.{TreeError, TheVariants.NotAStore}, page_btree_node.specs.{Places.ceiling, Searching.RisesAfter}}
use Rattle.{page_btree_node.specs.claim.Node.{Node, IsNode}, page_store.specs.{Reading.ReadsOnly, declared.{pages.Pages.Pages, txn.Txn.Txn}}, sector_device.specs.claim.Disk.Image}
use Rattle.{page_store.specs.claim.Transactions.{stored, disk_in, txn_pages, txn_root, over, free_over, IsQuiet, Passed}, sector_device.specs.declared.SectorDevice.Ghosts}
use Rattle.page_btree_gets.proofs.{Descent.{LeadsDown, goes_on, some_child}, Leads.leads_more, Outcomes.{map_ok, refused_by, reads_after}, Reaching.reaches_more}
use Rattle.{page_btree_gets.proofs.{Refusals.{refused_below, reads_more, get_fails}, Tops.{rooted, level_lent, top, at_root}}, page_store.proofs.Stops.passed_none}

-- by a page's bytes as they were lent
pub down : (n : ℕ) (P : Image) (level : ℕ) (key : List ℕ) (p child : ℕ) {bytes : List ℕ} → level ≢ 0 → n ≤ 2 ^ 32 → bytes ≡ P p → IsChild bytes key child → (can : CanGet n P level key (P p)) → LeadsDown n P level key (P p) can.tree can.low can.high child
down n P level key p child above few there told can = goes_on n P level key (P p) can child (omega arith) few (subst (λ b. IsChild b key child) there told)

-- a leaf to which keys lead from its child is one to which they lead from the page
module _ {D : Type 0} {g : Ghosts D} (result : Result ℕ TreeError) (t : Txn) (level : ℕ) (key : List ℕ) (p child : ℕ) {old mid : Pages D g} {bytes lent : List ℕ} (above : level ≢ 0) (quiet : IsQuiet old mid) (bytes_are : bytes ≡ lent) (lends : (disk_in mid).is_honest → lent ≡ over t (stored old) p) (told : IsChild bytes key child) (honest : (disk_in mid).is_honest) where
  pub leads_up : IfOk result (λ leaf. LeadsTo (over t (stored mid)) (level - 1) child key leaf) → IfOk result (λ leaf. LeadsTo (over t (stored old)) level p key leaf)
  leads_up is =
      let P = over t (stored old) in
      map_ok result (λ leaf. LeadsTo P (level - 1) child key leaf) (λ leaf. LeadsTo P level p key leaf)
      (λ leaf h. leads_more P level p key leaf child (omega arith) (subst (λ b. IsChild b key child) (bytes_are ∙ lends honest) told) h) (rw (quiet.same honest) at is)

  pub reach_up : (high : Option (List ℕ)) → ((node : Node) → IsNode bytes node → RisesAfter node.entries → (other : List ℕ) → IsUnder other high → IsUnder other (ceiling key node.entries))
      → IfOk result (λ leaf. LeadsAll (over t (stored mid)) (level - 1) child key high leaf) → IfOk result (λ leaf. LeadsAll (over t (stored old)) level p key high leaf)
  reach_up high within is =
      let P = over t (stored old) in
      let there = bytes_are ∙ lends honest in
      map_ok result (λ leaf. LeadsAll P (level - 1) child key high leaf) (λ leaf. LeadsAll P level p key high leaf)
      (λ leaf h other between. reaches_more P level p key other leaf child high (omega arith) between (subst (λ b. IsChild b key child) there told)
      (λ node at rises. within node (subst (λ b. IsNode b node) (sym there) at) rises other between.under) (h other between)) (rw (quiet.same honest) at is)

module _ {D : Type 0} {g : Ghosts D} {T : Type 0} {result : Result T TreeError} (t : Txn) (level : ℕ) (key : List ℕ) (p : ℕ) where
  -- ---- refusals
  -- the node isn't lent
  pub not_lent : {U : Type 0} {e : TreeError} {old new : Pages D g} → ReadsOnly {A = U} (LevelErr t old new level p) old new (Err e) → IsErrAnd result (λ x. x ≡ e) → ReadsOnly (GetAtErr t old new level key p) old new result
  not_lent {old} told is = refused_below (λ S. CanGetAt (txn_pages t) (over t S) level key p) (λ S. IsLevel (txn_pages t) (over t S) level p) (passed_none old) told is (λ honest at. at.1)

  -- it names no child
  pub no_child : (e : TreeError) {old new : Pages D g} {bytes lent : List ℕ} → IsQuiet old new → IsErrAnd result (λ x. x ≡ e) → e ≡ NotAStore → level ≢ 0 → bytes ≡ lent → ((disk_in new).is_honest → lent ≡ over t (stored old) p) → NoChild bytes key → ReadsOnly (GetAtErr t old new level key p) old new result
  no_child e quiet is same above bytes_are lends none = refused_by e is quiet (rw same (λ honest at. some_child _ _ level key _ at.0 (omega arith) (rw (bytes_are, lends honest) at none)))

  -- a call below its child is refused
  pub not_below : (child : ℕ) {old mid new : Pages D g} {bytes lent : List ℕ} → level ≢ 0 → txn_pages t ≤ 2 ^ 32 → Passed old mid → bytes ≡ lent → ((disk_in mid).is_honest → lent ≡ over t (stored old) p) → IsChild bytes key child
      → ReadsOnly (GetAtErr t mid new (level - 1) key child) mid new result → ReadsOnly (GetAtErr t old new level key p) old new result
  not_below child {old} {mid} {new} above few passed bytes_are lends told is =
      let P = over t (stored old) in
      let below = λ (S : Image). CanGetAt (txn_pages t) (over t S) (level - 1) key child in
      reads_after passed is (reads_more (λ S. CanGetAt (txn_pages t) (over t S) level key p) below old mid new passed is.quiet (λ honest at.
      let before = is.quiet.honest honest in
      let go = down (txn_pages t) P level key p child above few (bytes_are ∙ lends before) told at.0 in
      subst below (sym (passed.quiet.same before)) (go.next (P child) refl, go.level)))

  -- a call at the root is refused
  pub not_from_root : {old mid new : Pages D g} {bytes lent : List ℕ} → p ≡ txn_root t → p ≢ 0 → Passed old mid → bytes ≡ lent → ((disk_in mid).is_honest → lent ≡ over t (stored old) p) → ((node : Node) → IsNode bytes node → level ≡ node.level)
      → ReadsOnly (GetAtErr t mid new level key p) mid new result → ReadsOnly (GetErr t old new) old new result
  not_from_root {old} {mid} {new} same some passed bytes_are lends told is =
      let n = txn_pages t in
      let P = over t (stored old) in
      let free = free_over t (stored old) in
      let at = λ (S : Image). CanGetAt n (over t S) level key p in
      reads_after passed is (get_fails at t old mid new passed is.quiet (λ honest m holds.
      let before = is.quiet.honest honest in
      let r = rooted n P (txn_root t) free m holds (λ none. some (same ∙ none)) in
      let there = bytes_are ∙ lends before in
      subst at (sym (passed.quiet.same before)) (
        top n P (txn_root t) free m r key p level same there told,
        subst (λ q. IsLevel n P level q) (sym same) (at_root n P (txn_root t) free m r level (level_lent n P (txn_root t) free m r p level same there told)),
      )))
