use Rattle.{std.{specs.List.All, proofs.lemmas.List.{length-take-le, length-drop, Elements.{All-head, All-tail}}}, page_btree_node.specs.claim.Entries.{Entry, IsEntry, size_of}}
use Rattle.std.proofs.Common.{◌≡◌, ℕ, ◌+◌, ◌-◌, ◌*◌, ◌<◌, ◌≤◌, List, [], ◌∷◌, length, take, drop, get_or, sym, ap, ◌∙◌, arith, ◌++◌, subst, take-append-drop, rules}
use Rattle.page_btree_node.proofs.{Editing.{left_stands, right_stands, mark_step, bounds_of, marks_rise}, EntryLists.{size-parts, length-read}}
use Rattle.page_btree_node.proofs.Standing.{Stands, entries_are, size_is, to_held, opened}
use Rattle.page_btree_node.proofs.node_buf.NodeBuf.split.Goals as goal

-- ---- a node in two buffers
size_few : (es : List Entry) → All IsEntry es → size_of es ≤ 1099 * length es
size_few [] all = omega arith
size_few (e ∷ es) all = let here = All-head IsEntry e es all in omega (arith, size_few es (All-tail IsEntry e es all))

cut_steps : (level : ℕ) (es : List Entry) (marks bytes : List ℕ) (count : ℕ) → Stands level es marks bytes → count ≡ length es → (k : ℕ) → k < count → (get_or marks k 0 ≤ get_or marks (k + 1) 0) × (get_or marks (k + 1) 0 ≤ get_or marks k 0 + 1099)
cut_steps level es marks bytes count s is k less = let step = mark_step level es marks bytes s k (omega arith) in (omega arith, omega arith)

record IsSplit (level : ℕ) (es : List Entry) (count cut : ℕ) (marks bytes right_marks right_bytes : List ℕ) : Type 0 where
  left : Stands level (take cut es) marks bytes
  right : Stands level (drop cut es) right_marks right_bytes
  left_count : cut ≡ length (take cut es)
  right_count : count - cut ≡ length (drop cut es)
  used : get_or marks count 0 ≡ 4 + size_of es
  start : get_or marks cut 0 ≡ 4 + size_of (take cut es)
  parts : size_of (take cut es) + size_of (drop cut es) ≡ size_of es

split_of : (level : ℕ) (es : List Entry) (marks bytes right_marks right_bytes : List ℕ) (count cut : ℕ) → Stands level es marks bytes → count ≡ length es → cut < count
    → take (get_or marks count 0 - get_or marks cut 0) (drop 4 right_bytes) ≡ take (get_or marks count 0 - get_or marks cut 0) (drop (get_or marks cut 0) bytes)
    → ((k : ℕ) → cut ≤ k → k ≤ count → get_or right_marks (k - cut) 0 ≡ get_or marks k 0 - get_or marks cut 0 + 4)
    → IsSplit level es count cut marks bytes right_marks right_bytes
split_of level es marks bytes right_marks right_bytes count cut s is within same shifted =
    let parts = size-parts cut es in
    let start = s.places cut (omega arith) in
    let used : get_or marks count 0 ≡ 4 + size_of es = ap (λ k. get_or marks k 0) is ∙ size_is level es marks bytes s in
    let size : get_or marks count 0 - get_or marks cut 0 ≡ size_of (drop cut es) = omega arith in
    let n = length-drop cut es in
    let right = right_stands level es marks bytes right_marks right_bytes cut s (omega arith)
    (ap (λ k. take k (drop 4 right_bytes)) (sym size) ∙ same ∙ ap (λ k. take k (drop (get_or marks cut 0) bytes)) size) (λ k low le. shifted k low (omega arith)) in
    search (arith, left_stands level es marks bytes cut s (omega arith), length-take-le cut es (omega arith))

-- ---- answers
pub cut_at-cut-requires : goal.cut_at-cut-requires
cut_at-cut-requires c =
    let o = opened _ _ _ _ _ c.self.invariant c.self.view_is in
    let few = size_few _ o.stands.shape.entries in
    let b = bounds_of _ _ _ _ _ (length c.args.self.now.entries) o.stands o.count_of (omega arith) in
    record {
      room = search rules;
      first = search rules;
      steps = cut_steps _ _ _ _ _ o.stands o.count_of;
      some = omega arith;
      large = omega arith;
      most = omega arith;
    }

pub copy_body-requires-clause-part : goal.copy_body-requires-clause-part
copy_body-requires-clause-part c =
    let o = opened _ _ _ _ _ c.self.invariant c.self.view_is in let n = o.count_of in
    let b = bounds_of _ _ _ _ _ (length c.args.self.now.entries) o.stands o.count_of (omega arith) in
    record { order = marks_rise _ _ _ _ o.stands c.cut_at-cut.result c.self.inside.count (omega arith) (omega arith); within = omega arith }

pub copy_ends-requires-clause-rising : goal.copy_ends-requires-clause-rising
copy_ends-requires-clause-rising c = λ k low le. let o = opened _ _ _ _ _ c.self.invariant c.self.view_is in let n = o.count_of in marks_rise _ _ _ _ o.stands c.cut_at-cut.result k low (omega arith)

pub invariant_of-self : goal.invariant_of-self
invariant_of-self c = let o = opened _ _ _ _ _ c.self.invariant c.self.view_is in let s = split_of _ _ c.self.inside.ends c.self.inside.bytes c.copy_ends.new.to c.copy_body.new.to _ c.cut_at-cut.result o.stands o.count_of c.cut_at-cut.ensures.within.1 c.copy_body.ensures c.copy_ends.ensures in to_held _ _ _ _ _ s.left s.left_count

pub invariant_of-right : goal.invariant_of-right
invariant_of-right c = let o = opened _ _ _ _ _ c.self.invariant c.self.view_is in let s = split_of _ _ c.self.inside.ends c.self.inside.bytes c.copy_ends.new.to c.copy_body.new.to _ c.cut_at-cut.result o.stands o.count_of c.cut_at-cut.ensures.within.1 c.copy_body.ensures c.copy_ends.ensures in to_held _ _ _ _ _ s.right s.right_count

pub returns : goal.returns
returns c =
    let o = opened _ _ _ _ _ c.self.invariant c.self.view_is in let s = split_of _ _ c.self.inside.ends c.self.inside.bytes c.copy_ends.new.to c.copy_body.new.to _ c.cut_at-cut.result o.stands o.count_of c.cut_at-cut.ensures.within.1 c.copy_body.ensures c.copy_ends.ensures in
    let left = entries_are _ _ _ _ _ s.left s.left_count in
    let right = entries_are _ _ _ _ _ s.right s.right_count in
    let within = c.cut_at-cut.ensures.within in
    let some = within.0 in
    record {
      entries = (λ x. left x ++ right x) ∙ take-append-drop c.cut_at-cut.result c.args.self.now.entries;
      level = (o.level_of, o.level_of);
      some =
          let a = length-read c.cut_at-cut.result (drop 4 c.self.inside.bytes) in
          let b = length-read (c.self.inside.count - c.cut_at-cut.result) (drop 4 c.copy_body.new.to) in
          (omega arith, omega arith);
      fits = let P : List Entry → Type 0 = λ l. size_of l ≤ 4092 in (subst P (sym left) (omega arith), subst P (sym right) (omega arith));
      last = λ is_last fits.
          let at = o.stands.places c.args.added (omega arith) in
          left ∙ ap (λ k. take k c.args.self.now.entries) (c.cut_at-cut.ensures.last (omega arith) (omega arith));
      half = λ premise.
          let half = c.cut_at-cut.ensures.half (λ is_last. let at = o.stands.places c.args.added (omega arith) in let over = premise (omega arith) in omega arith) in
          let P : List Entry → Type 0 = λ l. (size_of c.args.self.now.entries ≤ 2 * size_of l) × (2 * size_of l < size_of c.args.self.now.entries + 2198) in
          subst P (sym left) (omega arith, omega arith);
    }
