-- A name's place in a tree, from its place on one side.
use Rattle.std.specs.{Cmp.Lexicographic.nat_list_cmp_total, Ordering.{is_lt, ordering_reverse}, declared.cmp.Ordering.TheVariants.{Less, Equal, Greater}}
use Rattle.std.proofs.{Common.{◌≡◌, ℕ, ◌<◌, true, List, [], ◌∷◌, ◌++◌, length, drop, Option, Some, None, arith, refl, sym, ap, ◌∙◌}, lemmas.List.{append_assoc, append-nil}}
use Rattle.{desk_model.specs.claim.Desk.name_cmp, desk_store_plans.{specs.Rows.{Row, EndsBelow, StartsAbove, StandsAt, IsSplit, IsMade, IsFound}, proofs.Rising.ends_below_last}}

pub above_of : (x y : List ℕ) → name_cmp x y ≡ Greater → is_lt (name_cmp y x) ≡ true
above_of x y more = ap is_lt (nat_list_cmp_total.antisymm y x ∙ ap ordering_reverse more)

-- a name's place in rows, from its place in a part of them
module _ {name : List ℕ} (before after : List Row) (low : (prefix : List Row) → EndsBelow name prefix → EndsBelow name (before ++ prefix))
    (high : (back : List Row) → StartsAbove name back → StartsAbove name (back ++ after)) where
  stands_within : (prefix here back : List Row) → StandsAt name prefix here back → StandsAt name (before ++ prefix) here (back ++ after)
  stands_within prefix [] back stands = (low prefix stands.0, high back stands.1)
  stands_within prefix (h ∷ []) back stands = stands
  stands_within prefix (h ∷ i ∷ hs) back stands = absurd stands

  split_within : {part rows prefix here back : List Row} → before ++ (part ++ after) ≡ rows → IsSplit name part prefix here back → IsSplit name rows (before ++ prefix) here (back ++ after)
  split_within {prefix = prefix} {here = here} {back = back} was s = record {
    all = sym was ∙ ap (λ xs. before ++ (xs ++ after)) s.all ∙ simp append_assoc;
    stands = stands_within prefix here back s.stands;
  }

  made_within : {into part rows new made : List Row} → before ++ (part ++ after) ≡ rows → made ≡ before ++ (new ++ after) → IsMade name into part new → IsMade name into rows made
  made_within was is p = record {
    prefix = before ++ p.prefix;
    here = p.here;
    back = p.back ++ after;
    split = split_within was p.split;
    new_is = is ∙ ap (λ xs. before ++ (xs ++ after)) p.new_is ∙ simp append_assoc;
  }

module _ (name : List ℕ) (e : Row) where
  starts_more : (r : List Row) → name_cmp name e.0 ≡ Less → (back : List Row) → StartsAbove name back → StartsAbove name (back ++ e ∷ r)
  starts_more r less [] starts = ap is_lt less
  starts_more r less (b ∷ bs) starts = starts

  ends_first : (prefix : List Row) → is_lt (name_cmp e.0 name) ≡ true → EndsBelow name prefix → EndsBelow name (e ∷ prefix)
  ends_first [] less ends = less
  ends_first (f ∷ fs) less ends = ends

  ends_more : (l : List Row) → name_cmp name e.0 ≡ Greater → (prefix : List Row) → EndsBelow name prefix → EndsBelow name ((l ++ e ∷ []) ++ prefix)
  ends_more l more prefix ends = rw append_assoc (ends_below_last name l (e ∷ prefix) (omega arith) (ends_first prefix (above_of name e.0 more) ends))

  none_after : (back : List Row) → StartsAbove name back → StartsAbove name (back ++ [])
  none_after back starts = rw append-nil starts

pub split_none : (name : List ℕ) → IsSplit name [] [] [] []
split_none name = record { all = refl; stands = (tt, tt) }

-- a plan is put or taken away: on the left, on the right, there, and where there is none
module _ {name : List ℕ} {into rows made : List Row} where
  pub made_left : {l new : List Row} (r : List Row) (e : Row) → l ++ e ∷ r ≡ rows → made ≡ new ++ e ∷ r → name_cmp name e.0 ≡ Less → IsMade name into l new → IsMade name into rows made
  made_left r e was is less p = made_within [] (e ∷ r) (λ _ ends. ends) (starts_more name e r less) was is p

  pub made_right : {r new : List Row} (l : List Row) (e : Row) → l ++ e ∷ r ≡ rows → made ≡ l ++ e ∷ new → name_cmp name e.0 ≡ Greater → IsMade name into r new → IsMade name into rows made
  made_right l e was is more p = made_within (l ++ e ∷ []) [] (ends_more name e l more) (none_after name e) (simp (append_assoc, append-nil) was) (is ∙ simp (append_assoc, append-nil)) p

  pub made_here : (l r : List Row) (e : Row) → l ++ e ∷ r ≡ rows → made ≡ l ++ (into ++ r) → name_cmp name e.0 ≡ Equal → IsMade name into rows made
  made_here l r e was is same = record { prefix = l; here = e ∷ []; back = r; split = record { all = sym was; stands = same }; new_is = is }

pub made_alone : {name : List ℕ} {into made : List Row} → made ≡ into ++ [] → IsMade name into [] made
made_alone {name} is = record { prefix = []; here = []; back = []; split = split_none name; new_is = is }

module _ {name : List ℕ} {rows : List Row} where
  pub found_right : {r : List Row} (l : List Row) (e : Row) (found : Option Row) → l ++ e ∷ r ≡ rows → name_cmp name e.0 ≡ Greater → IsFound name r found → IsFound name rows found
  found_right l e found was more f = record {
    prefix = (l ++ e ∷ []) ++ f.prefix;
    back = f.back ++ [];
    split = split_within (l ++ e ∷ []) [] (ends_more name e l more) (none_after name e) (simp (append_assoc, append-nil) was) f.split;
  }

  pub found_here : (l r : List Row) (e : Row) → l ++ e ∷ r ≡ rows → name_cmp name e.0 ≡ Equal → IsFound name rows (Some e)
  found_here l r e was same = record { prefix = l; back = r; split = record { all = sym was; stands = same } }

pub found_none : (name : List ℕ) → IsFound name [] None
found_none name = record { prefix = []; back = []; split = split_none name }

pub others_of_more : (l more : List Row) → 0 < length l → drop 1 (l ++ more) ≡ drop 1 l ++ more
others_of_more [] more some = absurd (omega arith)
others_of_more (d ∷ l) more some = refl

-- the plans of a tree that is a height and plans
pub rows_are : {height : ℕ} {rows : List Row} {tree : ℕ × List Row} → (height, rows) ≡ tree → rows ≡ tree.1
rows_are is = ap (λ (t : ℕ × List Row). t.1) is
