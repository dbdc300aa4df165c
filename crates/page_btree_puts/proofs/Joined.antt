-- Children after children, and children parted.
use Rattle.{std.specs.Prelude.{Option, Some}, page_btree_gets.specs.{claim.Keys.Parts, node.claim.Entries.{Entry, child_bytes}}, sector_device.specs.claim.Disk.Image}
use Rattle.std.proofs.Common.{rules, ◌≡◌, ◌⊎◌, ◌<◌, ◌+◌, ◌++◌, inl, inr, ⊎_elim, ℕ, List, [], ◌∷◌, length, length-append, refl, sym, ap, subst, ◌∙◌, arith, append_assoc}
use Rattle.page_btree_gets.specs.claim.Tree.{Forest, one, more, page_of, first_key, links, forest_rows, rows, forest_owns, forest_size, AreTrees, AreApart}
use Rattle.page_btree_gets.proofs.Rows.{wider_under}
use Rattle.page_btree_gets.proofs.node.Laws.{less_trans}

abbrev pub join : Forest → Forest → Forest
join (one k t) g = more k t g
join (more k t f) g = more k t (join f g)

pub join_key : (f g : Forest) → first_key (join f g) ≡ first_key f
join_key (one k t) g = refl
join_key (more k t f) g = refl

pub join_links : (f g : Forest) → links (join f g) ≡ links f ++ links g
join_links (one k t) g = refl
join_links (more k t f) g = ap (λ (l : List Entry). (k, child_bytes (page_of t)) ∷ l) (join_links f g)

pub join_rows : (f g : Forest) → forest_rows (join f g) ≡ forest_rows f ++ forest_rows g
join_rows (one k t) g = refl
join_rows (more k t f) g = ap (λ l. rows t ++ l) (join_rows f g) ∙ sym (append_assoc (rows t) (forest_rows f) (forest_rows g))

pub join_size : (f g : Forest) → forest_size (join f g) ≡ forest_size f + forest_size g
join_size (one k t) g = refl
join_size (more k t f) g = let rest = join_size f g in omega arith

pub owns_join : (f g : Forest) (q : ℕ) → forest_owns (join f g) q → forest_owns f q ⊎ forest_owns g q
owns_join (one k t) g q own = own
owns_join (more k t f) g q (inl own) = inl (inl own)
owns_join (more k t f) g q (inr own) = ⊎_elim (λ o. inl (inr o)) (λ o. inr o) (owns_join f g q own)

pub join_owns : (f g : Forest) (q : ℕ) → forest_owns f q ⊎ forest_owns g q → forest_owns (join f g) q
join_owns (one k t) g q own = own
join_owns (more k t f) g q (inl (inl own)) = inl own
join_owns (more k t f) g q (inl (inr own)) = inr (join_owns f g q (inl own))
join_owns (more k t f) g q (inr own) = inr (join_owns f g q (inr own))

pub join_apart : (f g : Forest) → AreApart f → AreApart g → ((q : ℕ) → forest_owns f q → forest_owns g q → ⊥) → AreApart (join f g)
join_apart (one k t) g af ag off = (af, off, ag)
join_apart (more k t f) g af ag off = (
  af.0,
  (λ q own there. ⊎_elim (λ o. af.1 q own o) (λ o. off q (inl own) o) (owns_join f g q there)),
  join_apart f g af.2 ag (λ q own there. off q (inr own) there),
)

pub part_apart : (f g : Forest) → AreApart (join f g) → AreApart f × AreApart g × ((q : ℕ) → forest_owns f q → forest_owns g q → ⊥)
part_apart (one k t) g apart = (apart.0, apart.2, apart.1)
part_apart (more k t f) g apart = let rest = part_apart f g apart.2 in search (rules, join_owns)

-- children below a bound, and children from it on
pub join_trees : (P : Image) (d : ℕ) (low : List ℕ) (high : Option (List ℕ)) (f g : Forest) → AreTrees P d low (Some (first_key g)) f → Parts low high (first_key g) → AreTrees P d (first_key g) high g → AreTrees P d low high (join f g)
join_trees P d low high (one k t) g tf parts tg = (tf, parts, tg)
join_trees P d low high (more k t f) g tf parts tg =
    let rest : AreTrees P d (first_key f) high (join f g) = join_trees P d (first_key f) high f g tf.2 (record { above = tf.1.under; under = parts.under }) tg in
    let here : Parts low high (first_key f) = record { above = tf.1.above; under = wider_under (first_key f) (first_key g) high tf.1.under parts.under } in
    let same = sym (join_key f g) in search rules

pub part_trees : (P : Image) (d : ℕ) (low : List ℕ) (high : Option (List ℕ)) (f g : Forest) → AreTrees P d low high (join f g) → AreTrees P d low (Some (first_key g)) f × Parts low high (first_key g) × AreTrees P d (first_key g) high g
part_trees P d low high (one k t) g trees = trees
part_trees P d low high (more k t f) g trees =
    let same = join_key f g in
    let parts : Parts low high (first_key f) = subst (λ (b : List ℕ). Parts low high b) same trees.1 in
    let rest : AreTrees P d (first_key f) (Some (first_key g)) f × Parts (first_key f) high (first_key g) × AreTrees P d (first_key g) high g =
    part_trees P d (first_key f) high f g (subst (λ (b : List ℕ). AreTrees P d b high (join f g)) same trees.2) in (
      search rules,
      search less_trans,
      search rules,
    )

-- where the entries are parted, so are the children
pub record IsJoined (f : Forest) (lower upper : List Entry) : Type 0 where
  pub low : Forest
  pub high : Forest
  pub is : f ≡ join low high
  pub low_links : links low ≡ lower
  pub high_links : links high ≡ upper

rest_is : (x y : Entry) (xs ys : List Entry) → x ∷ xs ≡ y ∷ ys → xs ≡ ys
rest_is x y xs ys e = search rules

first_is : (x y : Entry) (xs ys : List Entry) → x ∷ xs ≡ y ∷ ys → x ≡ y
first_is x y xs ys e = cc

pub part_at : (f : Forest) (lower upper : List Entry) → 0 < length lower → 0 < length upper → lower ++ upper ≡ links f → IsJoined f lower upper
part_at (one k t) (x ∷ xs) (y ∷ ys) some other e = absurd (let n : length (xs ++ y ∷ ys) ≡ 0 = ap length (rest_is _ _ _ _ e) in let both = length-append xs (y ∷ ys) in omega arith)
part_at (more k t f) (x ∷ []) (y ∷ ys) some other e = record {
  low = one k t;
  high = f;
  is = refl;
  low_links = ap (λ l. l ∷ []) (sym (first_is _ _ _ _ e));
  high_links = sym (rest_is _ _ _ _ e);
}
part_at (more k t f) (x ∷ z ∷ zs) (y ∷ ys) some other e =
    let rest = part_at f (z ∷ zs) (y ∷ ys) (omega arith) (omega arith) (rest_is _ _ _ _ e) in
    let is : more k t f ≡ join (more k t rest.low) rest.high = ap (more k t) rest.is in
    let low_links : links (more k t rest.low) ≡ x ∷ z ∷ zs = λ i. sym (first_is _ _ _ _ e) i ∷ rest.low_links i in
    search rules
part_at f _ _ some other e = absurd (omega arith)
