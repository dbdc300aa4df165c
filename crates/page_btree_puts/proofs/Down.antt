-- A step down to the child of a key, and up again.
use Rattle.{std.specs.{FinMap.find, Ordering.is_gt, Prelude.{Option, Some, None, option_map, is_some}}, page_btree_gets.specs.{Getting.CanGet, claim.{Keys.IsBetween, Map.IsSound}}}
use Rattle.std.proofs.Common.{rules, ◌≡◌, ◌≢◌, ◌<◌, ◌≤◌, ◌-◌, ◌^◌, inl, inr, ℕ, List, [], ◌∷◌, length, Bool, true, false, cond, refl, sym, ap, subst, ◌∙◌, arith, ◌⊎◌, ◌+◌, ⊎_elim, ◌++◌}
use Rattle.page_btree_gets.specs.claim.Tree.{Tree, Forest, leaf, inner, page_of, rows, links, IsTree, one, more, first_key, forest_rows, owns, forest_owns, forest_size, AreTrees, AreApart}
use Rattle.page_btree_gets.specs.node.{Entries.{key_at, child_in}, Places.floor, claim.{Entries.{Entry, child_bytes}, Node.{Node, IsNode}, Places.key_cmp}}
use Rattle.{page_btree_puts.specs.Putting.{IsPut, IsWritten, IsRaised, CanPut, linked, after_child, IsTaken, IsCut}, page_store.specs.claim.Chain.{IsIn, AreFree}}
use Rattle.{sector_device.specs.claim.Disk.Image, page_btree_gets.proofs.{Booleans.either, MapLaws.{trees_same, tree_same}, Within.{rows_after, rows_before}}}
use Rattle.page_btree_gets.proofs.Descent.{named, owns_page, some_links, key_of_links, AreUsed, ChildFor, only_child, first_child, later_child}
use Rattle.page_btree_gets.proofs.Rows.{put_left, put_right, find_left, find_right, key_before}
use Rattle.page_btree_puts.proofs.Joined.{join, join_rows, join_size, join_owns, part_apart, part_trees, part_at, IsJoined, join_links, owns_join, join_apart, join_trees}

-- ---- the child that a key belongs to, and what a put into it does to all children
linked_key : (key : List ℕ) (new es : List Entry) → key_at (linked key new es) 0 ≡ key_at es 0
linked_key key new [] = refl
linked_key key new (e ∷ es) = refl

-- a link more, before those that are above the key
linked_links : (k key : List ℕ) (new : List Entry) (t : Tree) (f : Forest) → linked key new (links (more k t f)) ≡ (k, child_bytes (page_of t)) ∷ cond (is_gt (key_cmp (first_key f) key)) (new ++ links f) (linked key new (links f))
linked_links k key new t (one q u) = refl
linked_links k key new t (more q u f) = refl

module _ (P Q : Image) (d : ℕ) (low : List ℕ) (high : Option (List ℕ)) (free left : List ℕ) (key value : List ℕ) (had : Bool) where
  -- the first child became others
  put_first : (k : List ℕ) (t : Tree) (f g : Forest) → AreTrees P d low high (more k t f) → AreApart (more k t f) → AreUsed (more k t f) free → is_gt (key_cmp (first_key f) key) ≡ true
      → IsPut P Q d low (Some (first_key f)) free left key value had (one k t) g → IsPut P Q d low high free left key value had (more k t f) (join g f)
  put_first k t f g trees apart used above done =
      let before = rows_before P d (first_key f) high key f trees.2 (key_before (first_key f) key above) in
      let stays : (q : ℕ) → forest_owns f q → Q q ≡ P q = λ q own. done.frame q (λ o. apart.1 q o own) (λ taken. used q (inr own) taken.0) in
      let off : (q : ℕ) → forest_owns g q → forest_owns f q → ⊥ = λ q there own. ⊎_elim (λ o. apart.1 q o own) (λ taken. used q (inr own) taken.0) (done.owned q there) in
      record {
        trees = join_trees Q d low high g f done.trees trees.1 (trees_same P Q d (first_key f) high f stays trees.2);
        apart = join_apart g f done.apart apart.2 off;
        rows_are = join_rows g f ∙ ap (λ l. l ++ forest_rows f) done.rows_are ∙ sym (put_left key value (rows t) (forest_rows f) before);
        had_is = done.had_is ∙ ap is_some (sym (find_left key (rows t) (forest_rows f) before));
        owned = λ q own. ⊎_elim (λ o. ⊎_elim (λ was. inl (inl was)) (λ taken. inr taken) (done.owned q o)) (λ o. inl (inr o)) (owns_join g f q own);
        frame = λ q out none. done.frame q (λ o. out (inl o)) none;
        fewer = done.fewer;
        rest = done.rest;
        whole = omega (arith, join_size g f);
      }

  -- a later one did
  put_later : (k : List ℕ) (t : Tree) (f g : Forest) → AreTrees P d low high (more k t f) → AreApart (more k t f) → AreUsed (more k t f) free → is_gt (key_cmp (first_key f) key) ≡ false → first_key g ≡ first_key f
      → IsPut P Q d (first_key f) high free left key value had f g → IsPut P Q d low high free left key value had (more k t f) (more k t g)
  put_later k t f g trees apart used from same done =
      let after = rows_after P d low (first_key f) key t trees.0 from in
      record {
        trees = search (rules, tree_same);
        apart = (apart.0, (λ q own there. ⊎_elim (λ o. apart.1 q own o) (λ taken. used q (inl own) taken.0) (done.owned q there)), done.apart);
        rows_are = ap (λ l. rows t ++ l) done.rows_are ∙ sym (put_right key value (rows t) (forest_rows f) after);
        had_is = done.had_is ∙ ap is_some (sym (find_right key (rows t) (forest_rows f) after));
        owned = λ q own. ⊎_elim (λ o. inl (inl o)) (λ o. ⊎_elim (λ was. inl (inr was)) (λ taken. inr taken) (done.owned q o)) own;
        frame = λ q out none. done.frame q (λ o. out (inr o)) none;
        fewer = done.fewer;
        rest = done.rest;
        whole = omega arith;
      }

-- The child for a key, and how a put into it is one into all.
pub record HasChild (P : Image) (d : ℕ) (low : List ℕ) (high : Option (List ℕ)) (free : List ℕ) (key value : List ℕ) (f : Forest) : Type 0 where
  pub at : ChildFor P d low high key f
  pub its_key : List ℕ
  pub back : (Q : Image) (left : List ℕ) (had : Bool) (g : Forest) (new : List Entry) → IsPut P Q d at.its_low at.its_high free left key value had (one its_key at.child) g → links g ≡ (its_key, child_bytes (page_of at.child)) ∷ new
      → (h : Forest) × IsPut P Q d low high free left key value had f h × (links h ≡ linked key new (links f))

pub chosen : (P : Image) (d : ℕ) (low : List ℕ) (high : Option (List ℕ)) (free : List ℕ) (key value : List ℕ) (f : Forest) → AreTrees P d low high f → AreApart f → AreUsed f free → IsBetween low high key → HasChild P d low high free key value f
chosen P d low high free key value (one k t) trees apart used between = record {
  at = only_child P d low high key k t trees between;
  its_key = k;
  back = λ Q left had g new done same. (g, done, same);
}
chosen P d low high free key value (more k t f) trees apart used between = elim (either (is_gt (key_cmp (first_key f) key))) [
  | inl above ↦ record {
    at = first_child P d low high key k t f trees between above;
    its_key = k;
    back = λ Q left had g new done same. (
      join g f,
      put_first P Q d low high free left key value had k t f g trees apart used above done,
      join_links g f ∙ ap (λ l. l ++ links f) same ∙ sym (linked_links k key new t f ∙ ap (λ (b : Bool). (k, child_bytes (page_of t)) ∷ cond b (new ++ links f) (linked key new (links f))) above),
    );
  }
  | inr from ↦
      let rest = chosen P d (first_key f) high free key value f trees.2 apart.2 (λ q own. used q (inr own)) (record { from = from; under = between.under }) in record {
        at = later_child P d low high key k t f trees between from rest.at;
        its_key = rest.its_key;
        back = λ Q left had g new done same.
            let up = rest.back Q left had g new done same in
            let key_same : first_key up.0 ≡ first_key f = sym (key_of_links up.0) ∙ ap (λ l. key_at l 0) up.2 ∙ linked_key key new (links f) ∙ key_of_links f in (
              more k t up.0,
              put_later P Q d low high free left key value had k t f up.0 trees apart used from key_same up.1,
              ap (λ l. (k, child_bytes (page_of t)) ∷ l) up.2 ∙ sym (linked_links k key new t f ∙ ap (λ (b : Bool). (k, child_bytes (page_of t)) ∷ cond b (new ++ links f) (linked key new (links f))) from),
            );
      }
]

-- ---- a node above was written, whole or cut, after a put into its children; and a leaf was
module _ (P Q R : Image) (n d : ℕ) (low : List ℕ) (high : Option (List ℕ)) (free left last : List ℕ) (key value : List ℕ) (had : Bool) (k : List ℕ) (p : ℕ) (f h : Forest) (positive : 0 < d) (sound : IsSound n free (inner p f)) (free_are : AreFree n free) (done : IsPut P Q (d - 1) low high free left key value had f h) where
  -- the node's page is none of its new children's
  off : forest_owns h p → ⊥
  off own = ⊎_elim (λ o. sound.apart.0 o) (λ taken. sound.used p (inl refl) taken.0) (done.owned p own)

  module _ (q : ℕ) (upper : Node) (w : IsCut Q R left last p q (record { level = d; entries = links h }) upper) where
    in_left : IsIn q left
    in_left = subst (IsIn q) (sym w.taken) (inl refl)

    left_are : AreFree n (q ∷ last)
    left_are = subst (AreFree n) w.taken (done.rest n free_are)

    is_taken : IsTaken free last q
    is_taken = (done.fewer q in_left, left_are.2)

    also : (x : ℕ) → IsTaken free left x → IsTaken free last x
    also x taken = (taken.0, λ there. taken.1 (subst (IsIn x) (sym w.taken) (inr there)))

    -- the new page is none of theirs either
    new_off : forest_owns h q → ⊥
    new_off own = ⊎_elim (λ o. sound.used q (inr o) is_taken.0) (λ taken. taken.1 in_left) (done.owned q own)

    raise_parts : IsJoined h w.lower upper.entries → IsRaised P R d low high free last key value had k p (inner p f) (Some q) upper
    raise_parts j =
        let stays : (x : ℕ) → forest_owns h x → R x ≡ Q x = λ x own. w.elsewhere x (λ is. off (subst (forest_owns h) is own)) (λ is. new_off (subst (forest_owns h) is own)) in
        let all : AreTrees R (d - 1) low high (join j.low j.high) = subst (AreTrees R (d - 1) low high) j.is (trees_same Q R (d - 1) low high h stays done.trees) in
        let parts = part_trees R (d - 1) low high j.low j.high all in
        let apart = part_apart j.low j.high (subst AreApart j.is done.apart) in
        let under : (x : ℕ) → forest_owns j.low x ⊎ forest_owns j.high x → forest_owns h x = λ x own. subst (λ g. forest_owns g x) (sym j.is) (join_owns j.low j.high x own) in
        let bound : first_key j.high ≡ key_at upper.entries 0 = sym (key_of_links j.high) ∙ ap (λ l. key_at l 0) j.high_links in
        let node : upper ≡ record { level = d; entries = links j.high } = λ i. record { level = w.level i; entries = sym j.high_links i } in
        let s : forest_size h ≡ forest_size j.low + forest_size j.high = ap forest_size j.is ∙ join_size j.low j.high in
        let e : length left ≡ length last + 1 = ap length w.taken ∙ omega arith in
        let b = first_key j.high in
        let was : (x : ℕ) → forest_owns h x → owns (inner p f) x ⊎ IsTaken free last x = λ x own. ⊎_elim (λ o. inl (inr o)) (λ taken. inr (also x taken)) (done.owned x own) in
        record {
          trees = more k (inner p j.low) (one b (inner q j.high));
          is_put = record {
            trees = (
              (positive, subst (λ l. IsNode (R p) (record { level = d; entries = l })) (sym j.low_links) w.holds, parts.0),
              parts.1,
              (positive, subst (IsNode (R q)) node w.beside, parts.2),
            );
            apart = (
              ((λ own. off (under p (inl own))), apart.0),
              (λ x own there. ⊎_elim
                  (λ is. ⊎_elim (λ same. (sound.used q (inl (sym same ∙ is)) is_taken.0)) (λ o. off (under p (inr (subst (forest_owns j.high) is o)))) there)
                  (λ o. ⊎_elim (λ same. new_off (under q (inl (subst (forest_owns j.low) same o)))) (λ u. apart.2 x o u) there)
                  own),
              ((λ own. new_off (under q (inr own))), apart.1),
            );
            rows_are = sym (join_rows j.low j.high) ∙ ap forest_rows (sym j.is) ∙ done.rows_are;
            had_is = done.had_is;
            owned = λ x own. ⊎_elim
                (λ o. ⊎_elim (λ is. inl (inl is)) (λ u. was x (under x (inl u))) o)
                (λ o. ⊎_elim (λ is. inr (subst (IsTaken free last) (sym is) is_taken)) (λ u. was x (under x (inr u))) o)
                own;
            frame = λ x out none. w.elsewhere x (λ is. out (inl is)) (λ is. none (subst (IsTaken free last) (sym is) is_taken)) ∙ done.frame x (λ o. out (inr o)) (λ taken. none (also x taken));
            fewer = λ x there. done.fewer x (subst (IsIn x) (sym w.taken) (inr there));
            rest = λ n are. (subst (AreFree n) w.taken (done.rest n are)).3;
            whole = omega arith;
          };
          shape = (inner p j.low, inner q j.high, ap (λ b. more k (inner p j.low) (one b (inner q j.high))) bound, refl, refl);
        }

    raise_cut : IsRaised P R d low high free last key value had k p (inner p f) (Some q) upper
    raise_cut = raise_parts (part_at h w.lower upper.entries w.some.0 w.some.1 w.both)

  pub raise : (right : Option ℕ) (upper : Node) → IsWritten Q R left last p right (record { level = d; entries = links h }) upper → IsRaised P R d low high free last key value had k p (inner p f) right upper
  raise None upper w =
      let e : length last ≡ length left = ap length w.none in
      let moved : IsTaken free left ≡ IsTaken free last = ap (IsTaken free) (sym w.none) in
      let forth : (q : ℕ) → IsTaken free left q → IsTaken free last q = λ q taken. (taken.0, λ there. taken.1 (subst (IsIn q) w.none there)) in
      record { trees = one k (inner p h); is_put = search (rules, trees_same); shape = (inner p h, refl, refl) }
  raise (Some q) upper w = raise_cut q upper w

-- ---- one step
after_none : (key : List ℕ) (es : List Entry) → after_child key [] es ≡ es
after_none key [] = refl
after_none key (e ∷ es) = ap (λ (l : List Entry). cond (is_gt (key_cmp e.0 key)) (e ∷ es) (e ∷ l)) (after_none key es) ∙ elim (is_gt (key_cmp e.0 key)) as (λ b. cond b (e ∷ es) (e ∷ es) ≡ e ∷ es) [ true ↦ refl | false ↦ refl ]

linked_none : (key : List ℕ) (es : List Entry) → linked key [] es ≡ es
linked_none key [] = refl
linked_none key (e ∷ es) = ap (λ (l : List Entry). e ∷ l) (after_none key es)

-- The node at a page names a child for a key, and what a put into that does to it, it does to the tree: the node stays, or has a link more.
pub record StepsDown (n : ℕ) (P : Image) (d : ℕ) (low : List ℕ) (high : Option (List ℕ)) (free : List ℕ) (page : ℕ) (key value : List ℕ) (t : Tree) (child : ℕ) : Type 0 where
  pub its : Tree
  pub its_low : List ℕ
  pub its_high : Option (List ℕ)
  pub can : (bytes : List ℕ) → bytes ≡ P child → CanPut n P (d - 1) its_low its_high free child bytes key its
  pub found : find key_cmp key (rows its) ≡ find key_cmp key (rows t)
  pub node : Node
  pub some : 0 < length node.entries
  pub here : IsNode (P page) node
  pub inside : 0 < node.level
  pub stays : (Q : Image) (left : List ℕ) (had : Bool) (right : Option ℕ) (upper : Node) → ((k : List ℕ) → IsRaised P Q (d - 1) its_low its_high free left key value had k child its right upper)
      → IsNode (Q page) node × AreFree n left × (IsIn page left → ⊥)
  pub kept : (Q : Image) (left : List ℕ) (had : Bool) (right : Option ℕ) (upper : Node) → ((k : List ℕ) → IsRaised P Q (d - 1) its_low its_high free left key value had k child its right upper) → right ≡ None
      → (above : Node) (k : List ℕ) → IsRaised P Q d low high free left key value had k page t right above
  pub more : (Q : Image) (left : List ℕ) (had : Bool) (right : Option ℕ) (upper : Node) → ((k : List ℕ) → IsRaised P Q (d - 1) its_low its_high free left key value had k child its right upper) → (q : ℕ) → right ≡ Some q
      → (R : Image) (last : List ℕ) (cut : Option ℕ) (above : Node) → IsWritten Q R left last page cut (record node { entries = linked key ((key_at upper.entries 0, child_bytes q) ∷ []) node.entries }) above
      → (k : List ℕ) → IsRaised P R d low high free last key value had k page t cut above

module _ (n : ℕ) (P : Image) (d : ℕ) (low : List ℕ) (high : Option (List ℕ)) (free : List ℕ) (page : ℕ) (key value : List ℕ) (f : Forest) (is : IsTree P d low high (inner page f)) (sound : IsSound n free (inner page f)) (free_are : AreFree n free) (between : IsBetween low high key) where
  has : HasChild P (d - 1) low high free key value f
  has = chosen P (d - 1) low high free key value f is.2 sound.apart.1 (λ q own. sound.used q (inr own)) between

  above_child : (Q R : Image) (left last : List ℕ) (had : Bool) (k : List ℕ) (new : List Entry) (right : Option ℕ) (upper : Node) → (h : Forest) × IsPut P Q (d - 1) low high free left key value had f h × (links h ≡ linked key new (links f))
      → IsWritten Q R left last page right (record { level = d; entries = linked key new (links f) }) upper → IsRaised P R d low high free last key value had k page (inner page f) right upper
  above_child Q R left last had k new right upper up w =
      raise P Q R n d low high free left last key value had k page f up.0 is.0 sound free_are up.1 right upper (subst (λ (l : List Entry). IsWritten Q R left last page right (record { level = d; entries = l }) upper) (sym up.2) w)

  step_at : (child : ℕ) → n ≤ 2 ^ 32 → option_map child_in (floor key (links f)) ≡ Some child → StepsDown n P d low high free page key value (inner page f) child
  step_at child few told =
      let its = has.at.child in
      let its_page = (sound.below (page_of its) (inr (has.at.owned (page_of its) (owns_page its)))).1 in
      let same : page_of its ≡ child = sym (named (floor key (links f)) (page_of its) child has.at.floor_is (omega arith) told) in
      let up : (Q : Image) (left : List ℕ) (had : Bool) (right r : Option ℕ) (upper : Node) → ((k : List ℕ) → IsRaised P Q (d - 1) has.at.its_low has.at.its_high free left key value had k child its right upper) → right ≡ r
      → IsRaised P Q (d - 1) has.at.its_low has.at.its_high free left key value had has.its_key (page_of its) its r upper
      = λ Q left had right r upper done to. subst (λ (x : ℕ). IsRaised P Q (d - 1) has.at.its_low has.at.its_high free left key value had has.its_key x its r upper) (sym same)
      (subst (λ (o : Option ℕ). IsRaised P Q (d - 1) has.at.its_low has.at.its_high free left key value had has.its_key child its o upper) to (done has.its_key)) in
      let stays : (Q : Image) (left : List ℕ) (had : Bool) (right : Option ℕ) (upper : Node) → ((k : List ℕ) → IsRaised P Q (d - 1) has.at.its_low has.at.its_high free left key value had k child its right upper)
      → IsNode (Q page) (record { level = d; entries = links f }) × AreFree n left × (IsIn page left → ⊥)
      = λ Q left had right upper done. (
      let u = up Q left had right right upper done refl in
      let same_page : Q page ≡ P page = u.is_put.frame page (λ own. sound.apart.0 (has.at.owned page own)) (λ taken. sound.used page (inl refl) taken.0) in
      (subst (λ bytes. IsNode bytes (record { level = d; entries = links f })) (sym same_page) is.1, u.is_put.rest n free_are, λ there. sound.used page (inl refl) (u.is_put.fewer page there))) in
      record {
        its = its;
        its_low = has.at.its_low;
        its_high = has.at.its_high;
        can = λ bytes reads. search (rules, has.at.apart sound.apart.1);
        found = has.at.found;
        node = record { level = d; entries = links f };
        some = some_links f;
        here = is.1;
        inside = is.0;
        stays = stays;
        kept = λ Q left had right upper done to above k.
            let u = up Q left had right None upper done to in
            let same_links : links u.trees ≡ (has.its_key, child_bytes (page_of its)) ∷ [] = ap links u.shape.1 ∙ ap (λ (x : ℕ). (has.its_key, child_bytes x) ∷ []) u.shape.2 in
            let node = subst (λ (l : List Entry). IsNode (Q page) (record { level = d; entries = l })) (sym (linked_none key (links f))) (stays Q left had right upper done).0 in
            subst (λ (r : Option ℕ). IsRaised P Q d low high free left key value had k page (inner page f) r above) (sym to)
            (above_child Q Q left left had k [] None above (has.back Q left had u.trees [] u.is_put same_links) (record { holds = node; elsewhere = λ q off. refl; none = refl }));
        more = λ Q left had right upper done q to R last cut above w k.
            let u = up Q left had right (Some q) upper done to in
            let new : List Entry = (key_at upper.entries 0, child_bytes q) ∷ [] in
            let same_links : links u.trees ≡ (has.its_key, child_bytes (page_of its)) ∷ new = search rules in
            above_child Q R left last had k new cut above (has.back Q left had u.trees new u.is_put same_links) w;
      }

pub step_down : (n : ℕ) (P : Image) (d : ℕ) (low : List ℕ) (high : Option (List ℕ)) (free : List ℕ) (page : ℕ) (bytes key value : List ℕ) (t : Tree) (child : ℕ) → n ≤ 2 ^ 32 → CanPut n P d low high free page bytes key t → d ≢ 0
    → ((node : Node) → IsNode bytes node → option_map child_in (floor key node.entries) ≡ Some child) → StepsDown n P d low high free page key value t child
step_down n P d low high free page bytes key value (leaf p es) child few can deep told = absurd (deep can.stands.tree_is.0)
step_down n P d low high free page bytes key value (inner p f) child few can deep told =
    let same = can.stands.page_is in
    let node = subst (λ b. IsNode b (record { level = d; entries = links f })) (sym (can.reads ∙ ap P (sym same))) can.stands.tree_is.1 in
    subst (λ (x : ℕ). StepsDown n P d low high free x key value (inner p f) child) same
    (step_at n P d low high free p key value f can.stands.tree_is can.stands.sound can.free_are can.between child few (told (record { level = d; entries = links f }) node))

pub as_get : (n : ℕ) (P : Image) (d : ℕ) (low : List ℕ) (high : Option (List ℕ)) (free : List ℕ) (page : ℕ) (bytes key : List ℕ) (t : Tree) → CanPut n P d low high free page bytes key t → CanGet n P d key bytes
as_get n P d low high free page bytes key t can = search rules
