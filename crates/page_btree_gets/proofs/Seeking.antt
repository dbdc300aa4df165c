-- The leaf in whose range a key falls, among all rows.
use Rattle.std.specs.{Cmp.Lexicographic.nat_list_cmp_total, FinMap.entries, List.AllByRecursion, Ordering.is_gt, Prelude.{Option, Some, None}, declared.cmp.Ordering.Ordering}
use Rattle.std.{specs.declared.cmp.Ordering.TheVariants.Greater, proofs.lemmas.{Cmp.{tied_itself, upto}, List.{append-nil, Elements.filter-append}}}
use Rattle.std.proofs.Common.{◌≡◌, ◌⊎◌, ◌<◌, ◌-◌, inl, inr, ℕ, List, [], ◌∷◌, ◌++◌, length, Bool, true, false, cond, refl, sym, ap, subst, ◌∙◌, append_assoc}
use Rattle.page_btree_gets.{specs.{Seeking.{leaf_of, forest_leaf, bound_of, forest_bound, IsNext}, claim.{Keys.{KeyMap, IsBetween, IsUnder}, Map.IsRooted}}, proofs.Booleans.either}
use Rattle.{page_btree_gets.specs.claim.Tree.{Tree, Forest, leaf, inner, one, more, first_key, rows, forest_rows, IsTree, AreTrees}, page_btree_node.specs.claim.Entries.Entry}
use Rattle.{page_btree_node.specs.{Places.{is_from, entries_from}, claim.Places.key_cmp}, sector_device.specs.claim.Disk.Image, page_btree_gets.proofs.Tops.every_key}
use Rattle.page_btree_gets.proofs.Rows.{Each, all_map, all_append, all_prefix, all_rest, less_from, from_then, less_is_from, key_before, wider_under}
use Rattle.{page_btree_gets.proofs.Within.{within_trees, rows_after}, page_btree_node.proofs.Laws.{flip_less, flip_greater, less_trans}}

-- ---- between bounds
-- from a bound on; nothing is after the last leaf
abbrev IsAfter : Option (List ℕ) → List ℕ → Type 0
IsAfter None x = ⊥
IsAfter (Some bound) x = is_gt (key_cmp bound x) ≡ false

abbrev IsWithin : Option (List ℕ) → Option (List ℕ) → Type 0
IsWithin bound None = Unit {0}
IsWithin None (Some high) = ⊥
IsWithin (Some bound) (Some high) = is_gt (key_cmp bound high) ≡ false

pub lower_of : (x y z : List ℕ) (r : Ordering) → key_cmp x y ≡ r → is_gt r ≡ false → is_gt (key_cmp y z) ≡ false → is_gt (key_cmp x z) ≡ false
lower_of x y z r is from lower = upto nat_list_cmp_total x y z (ap is_gt is ∙ from) lower

after_high : (bound : Option (List ℕ)) (q : List ℕ) → IsWithin bound (Some q) → (x : List ℕ) → is_gt (key_cmp q x) ≡ false → IsAfter bound x
after_high None q within x from = within
after_high (Some b) q within x from = lower_of b q x (key_cmp b q) refl within from

within_wider : (bound : Option (List ℕ)) (q : List ℕ) (high : Option (List ℕ)) → IsWithin bound (Some q) → IsUnder q high → IsWithin bound high
within_wider bound q None within under = tt
within_wider None q (Some h) within under = within
within_wider (Some b) q (Some h) within under = less_is_from b h (from_then b q h (key_cmp b q) refl within under)

within_itself : (high : Option (List ℕ)) → IsWithin high high
within_itself None = tt
within_itself (Some h) = ap is_gt (tied_itself nat_list_cmp_total h)

-- ---- a leaf among a tree's rows
pub record IsParted (key : List ℕ) (high : Option (List ℕ)) (all here : List Entry) (bound : Option (List ℕ)) : Type 0 where
  pub before : List Entry
  pub after : List Entry
  pub whole : all ≡ before ++ (here ++ after)
  pub below : Each Greater key before
  pub under : AllByRecursion (λ e. IsUnder e.0 bound) here
  pub rest : AllByRecursion (λ e. IsAfter bound e.0) after
  pub above : IsUnder key bound
  pub within : IsWithin bound high
  pub some : 0 < length here

parted_where : (b : Bool) (key : List ℕ) (high : Option (List ℕ)) (all this that : List Entry) (near far : Option (List ℕ)) → (b ≡ true → IsParted key high all this near) → (b ≡ false → IsParted key high all that far) → IsParted key high all (cond b this that) (cond b near far)
parted_where true key high all this that near far first other = first refl
parted_where false key high all this that near far first other = other refl

mutual
  pub parted : (P : Image) (d : ℕ) (low : List ℕ) (high : Option (List ℕ)) (key : List ℕ) (t : Tree) → IsTree P d low high t → IsBetween low high key → IsParted key high (rows t) (leaf_of t key) (bound_of t high key)
  parted P d low high key (leaf p es) is between =
      let whole : es ≡ [] ++ (es ++ []) = sym (append-nil es) in
      search (whole, all_map (λ e. IsBetween low high e.0) (λ e. IsUnder e.0 high) (λ e b. b.under) es is.1.within, within_itself high)
  parted P d low high key (inner p f) is between = parted_all P (d - 1) low high key f is.2 between

  pub parted_all : (P : Image) (d : ℕ) (low : List ℕ) (high : Option (List ℕ)) (key : List ℕ) (f : Forest) → AreTrees P d low high f → IsBetween low high key → IsParted key high (forest_rows f) (forest_leaf f key) (forest_bound f high key)
  parted_all P d low high key (one k t) is between = parted P d low high key t is between
  parted_all P d low high key (more k t f) is between =
      parted_where (is_gt (key_cmp (first_key f) key)) key high (rows t ++ forest_rows f) (leaf_of t key) (forest_leaf f key) (bound_of t (Some (first_key f)) key) (forest_bound f high key)
      (λ above.
      let s = parted P d low (Some (first_key f)) key t is.0 (record { from = between.from; under = key_before (first_key f) key above }) in
      let whole : rows t ++ forest_rows f ≡ s.before ++ (leaf_of t key ++ (s.after ++ forest_rows f)) = ap (λ (l : List Entry). l ++ forest_rows f) s.whole
      ∙ append_assoc s.before (leaf_of t key ++ s.after) (forest_rows f)
      ∙ ap (λ (l : List Entry). s.before ++ l) (append_assoc (leaf_of t key) s.after (forest_rows f)) in
      let rest = all_append (λ e. IsAfter (bound_of t (Some (first_key f)) key) e.0) s.after (forest_rows f) s.rest
      (all_map (λ e. IsBetween (first_key f) high e.0) (λ e. IsAfter (bound_of t (Some (first_key f)) key) e.0) (λ e b. after_high (bound_of t (Some (first_key f)) key) (first_key f) s.within e.0 b.from) (forest_rows f) (within_trees P d (first_key f) high f is.2)) in
      let within = within_wider (bound_of t (Some (first_key f)) key) (first_key f) high s.within is.1.under in
      search (whole, rest, within))
      (λ from.
      let s = parted_all P d (first_key f) high key f is.2 (record { from = from; under = between.under }) in
      let whole : rows t ++ forest_rows f ≡ (rows t ++ s.before) ++ (forest_leaf f key ++ s.after) = ap (λ (l : List Entry). rows t ++ l) s.whole ∙ sym (append_assoc (rows t) s.before (forest_leaf f key ++ s.after)) in
      let below = all_append (λ e. key_cmp key e.0 ≡ Greater) (rows t) s.before (rows_after P d low (first_key f) key t is.0 from) s.below in
      search (whole, below))

-- ---- the leaf that begins at a bound
abbrev AllFrom : List ℕ → List Entry → Type 0
AllFrom b es = AllByRecursion (λ e. is_gt (key_cmp b e.0) ≡ false) es

pub record IsStart (low : List ℕ) (high : Option (List ℕ)) (b : List ℕ) (here : List Entry) : Type 0 where
  pub from : is_gt (key_cmp low b) ≡ false
  pub under : IsUnder b high
  pub all : AllFrom b here

-- a forest's leaf at its lower end
first_start : (P : Image) (d : ℕ) (low q : List ℕ) (high : Option (List ℕ)) (k : List ℕ) (t : Tree) (f : Forest) → AreTrees P d low high (more k t f) → first_key f ≡ q → IsStart low high q (forest_leaf (more k t f) q)
first_start P d low q high k t f is same = subst (λ (b : List ℕ). IsStart low high b (forest_leaf (more k t f) b)) same (
    let tied : is_gt (key_cmp (first_key f) (first_key f)) ≡ false = ap is_gt (tied_itself nat_list_cmp_total (first_key f)) in
    let s = parted_all P d (first_key f) high (first_key f) f is.2 (record { from = tied; under = is.1.under }) in
    let all = within_trees P d (first_key f) high f is.2 in
    let each = all_map (λ e. IsBetween (first_key f) high e.0) (λ e. is_gt (key_cmp (first_key f) e.0) ≡ false) (λ e b. b.from) (forest_rows f) all in
    let there = subst (AllFrom (first_key f)) s.whole each in
    record {
      from = less_is_from low (first_key f) is.1.above;
      under = is.1.under;
      all = subst (AllFrom (first_key f)) (sym (ap (λ (b : Bool). cond b (leaf_of t (first_key f)) (forest_leaf f (first_key f))) tied))
          (all_prefix (λ e. is_gt (key_cmp (first_key f) e.0) ≡ false) (forest_leaf f (first_key f)) s.after (all_rest (λ e. is_gt (key_cmp (first_key f) e.0) ≡ false) s.before (forest_leaf f (first_key f) ++ s.after) there));
    })

mutual
  pub starts : (P : Image) (d : ℕ) (low : List ℕ) (high : Option (List ℕ)) (key b : List ℕ) (t : Tree) → IsTree P d low high t → IsBetween low high key → bound_of t high key ≡ Some b → (high ≡ Some b) ⊎ IsStart low high b (leaf_of t b)
  starts P d low high key b (leaf p es) is between e = inl e
  starts P d low high key b (inner p f) is between e = starts_all P (d - 1) low high key b f is.2 between e

  pub starts_all : (P : Image) (d : ℕ) (low : List ℕ) (high : Option (List ℕ)) (key b : List ℕ) (f : Forest) → AreTrees P d low high f → IsBetween low high key → forest_bound f high key ≡ Some b → (high ≡ Some b) ⊎ IsStart low high b (forest_leaf f b)
  starts_all P d low high key b (one k t) is between e = starts P d low high key b t is between e
  starts_all P d low high key b (more k t f) is between e = elim (either (is_gt (key_cmp (first_key f) key))) [
    | inl above ↦
        let told : bound_of t (Some (first_key f)) key ≡ Some b = sym (ap (λ (c : Bool). cond c (bound_of t (Some (first_key f)) key) (forest_bound f high key)) above) ∙ e in
        elim (starts P d low (Some (first_key f)) key b t is.0 (record { from = between.from; under = key_before (first_key f) key above }) told) [
          | inl same ↦ let q_is : first_key f ≡ b = cc in inr (first_start P d low b high k t f is q_is)
          | inr s ↦
              let up : is_gt (key_cmp (first_key f) b) ≡ true = ap is_gt (flip_less b (first_key f) s.under) in
              inr (record {
                from = s.from;
                under = wider_under b (first_key f) high s.under is.1.under;
                all = subst (AllFrom b) (sym (ap (λ (c : Bool). cond c (leaf_of t b) (forest_leaf f b)) up)) s.all;
              })
        ]
    | inr from ↦
        let told : forest_bound f high key ≡ Some b = sym (ap (λ (c : Bool). cond c (bound_of t (Some (first_key f)) key) (forest_bound f high key)) from) ∙ e in
        elim (starts_all P d (first_key f) high key b f is.2 (record { from = from; under = between.under }) told) [
          | inl same ↦ inl same
          | inr s ↦ inr (record {
            from = less_is_from low b (less_from low (first_key f) b is.1.above s.from);
            under = s.under;
            all = subst (AllFrom b) (sym (ap (λ (c : Bool). cond c (leaf_of t b) (forest_leaf f b)) s.from)) s.all;
          })
        ]
  ]

-- ---- rows from a key on
from_none : (key : List ℕ) (es : List Entry) → Each Greater key es → entries_from key es ≡ []
from_none key [] below = refl
from_none key (e ∷ es) below = ap (λ (r : Ordering). cond (cond (is_gt r) false true) (e ∷ entries_from key es) (entries_from key es)) below.0 ∙ from_none key es below.1

pub from_all : (key : List ℕ) (es : List Entry) → AllFrom key es → entries_from key es ≡ es
from_all key [] from = refl
from_all key (e ∷ es) from = ap (λ (b : Bool). cond (cond b false true) (e ∷ entries_from key es) (entries_from key es)) from.0 ∙ ap (λ (l : List Entry). e ∷ l) (from_all key es from.1)

pub record IsLeafAt (key : List ℕ) (all here : List Entry) (bound : Option (List ℕ)) : Type 0 where
  pub after : List Entry
  pub rows_are : entries_from key all ≡ entries_from key here ++ after
  pub next : IsNext bound all after

from_three : (key : List ℕ) (xs ys zs : List Entry) → entries_from key (xs ++ (ys ++ zs)) ≡ entries_from key xs ++ (entries_from key ys ++ entries_from key zs)
from_three key xs ys zs = filter-append (is_from key) xs (ys ++ zs) ∙ ap (λ (l : List Entry). entries_from key xs ++ l) (filter-append (is_from key) ys zs)

parts_from : (key : List ℕ) (xs ys zs : List Entry) → Each Greater key xs → AllFrom key zs → entries_from key (xs ++ (ys ++ zs)) ≡ entries_from key ys ++ zs
parts_from key xs ys zs below from = from_three key xs ys zs ∙ (λ i. from_none key xs below i ++ (entries_from key ys ++ from_all key zs from i))

pub leaf_at : (key : List ℕ) (all here : List Entry) (bound : Option (List ℕ)) → IsParted key None all here bound → IsLeafAt key all here bound
leaf_at key all here None p = record {
  after = [];
  rows_are = ap (entries_from key) p.whole ∙ parts_from key p.before here p.after p.below (all_map (λ e. ⊥) (λ e. is_gt (key_cmp key e.0) ≡ false) (λ e none. absurd none) p.after p.rest) ∙ ap (λ (l : List Entry). entries_from key here ++ l) (nothing p.after p.rest);
  next = refl;
}
  where
    nothing : (es : List Entry) → AllByRecursion (λ e. ⊥) es → es ≡ []
    nothing [] none = refl
    nothing (e ∷ es) none = absurd none.0
leaf_at key all here (Some b) p = record {
  after = p.after;
  rows_are = ap (entries_from key) p.whole ∙ parts_from key p.before here p.after p.below (all_map (λ e. is_gt (key_cmp b e.0) ≡ false) (λ e. is_gt (key_cmp key e.0) ≡ false) (λ e from. less_is_from key e.0 (less_from key b e.0 p.above from)) p.after p.rest);
  next = sym (ap (entries_from b) p.whole
      ∙ parts_from b p.before here p.after (all_map (λ e. key_cmp key e.0 ≡ Greater) (λ e. key_cmp b e.0 ≡ Greater) (λ e below. flip_less e.0 b (less_trans e.0 key b (flip_greater key e.0 below) p.above)) p.before p.below) p.rest
      ∙ ap (λ (l : List Entry). l ++ p.after) (from_none b here (all_map (λ e. IsUnder e.0 (Some b)) (λ e. key_cmp b e.0 ≡ Greater) (λ e less. flip_less e.0 b less) here p.under)));
}

-- ---- from the root
pub top_parted : (n : ℕ) (P : Image) (root : ℕ) (free : List ℕ) (m : KeyMap) (r : IsRooted n P root free m) (key : List ℕ) → IsParted key None (entries m) (leaf_of r.tree key) (bound_of r.tree None key)
top_parted n P root free m r key = subst (λ (all : List Entry). IsParted key None all (leaf_of r.tree key) (bound_of r.tree None key)) r.rows_are (parted P r.level [] None key r.tree r.stands (every_key key))

pub top_leaf : (n : ℕ) (P : Image) (root : ℕ) (free : List ℕ) (m : KeyMap) (r : IsRooted n P root free m) (key : List ℕ) → IsLeafAt key (entries m) (leaf_of r.tree key) (bound_of r.tree None key)
top_leaf n P root free m r key = leaf_at key (entries m) (leaf_of r.tree key) (bound_of r.tree None key) (top_parted n P root free m r key)
