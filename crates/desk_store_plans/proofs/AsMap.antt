-- Rows as a map.
use Rattle.std.specs.{Cmp.Lexicographic.nat_list_cmp_total, Option.option_copied, Ordering.{eq_by_cmp, is_eq}, declared.cmp.Ordering.{Ordering, TheVariants.Equal}}
use Rattle.std.specs.FinMap.{put, find, is_sorted, from_sorted, entries, get, len, entries_sorted, entries-from_sorted, entries-insert, get-from_sorted, get-insert, get-remove, same_map, len-entries, same_entries_map, empty_of_len}
use Rattle.std.proofs.Common.{◌≡◌, ℕ, Bool, true, false, cond, List, [], ◌∷◌, ◌++◌, length, IsTrue, Option, Some, None, IsSome, IfSome, IfNone, Bor, refl, ap, sym, subst, ◌∙◌}
use Rattle.{std.proofs.{Math.Dec.T, lemmas.Map.Lookups.exact_bytes}, desk_model.specs.claim.Desk.{Plan, name_cmp}}
use Rattle.desk_store_plans.specs.Rows.{Row, StartsAbove, IsSplit, IsPut, IsRemoved, IsFound}
use Rattle.desk_store_plans.proofs.Rising.{AllBelow, all_below, all_before, rising_without, rising_back, above_after, put_between, put_there, find_missing, find_there}
use Rattle.std.specs.FinMap as map_of

abbrev pub as_map : List Row → map_of.FinMap name_cmp Plan
as_map = from_sorted

holds : (b : Bool) → IsTrue b → T b
holds b e = subst T (sym e) tt

is_true : (b : Bool) → T b → IsTrue b
is_true true t = refl
is_true false t = absurd t

pub entries_of : (rows : List Row) → IsTrue (is_sorted name_cmp rows) → entries (as_map rows) ≡ rows
entries_of rows rising = entries-from_sorted name_cmp rows (holds _ rising)

pub len_of : (rows : List Row) → IsTrue (is_sorted name_cmp rows) → len (as_map rows) ≡ length rows
len_of rows rising = len-entries (as_map rows) ∙ ap length (entries_of rows rising)

pub empty_of : as_map [] ≡ map_of.empty
empty_of = empty_of_len (as_map []) (len_of [] refl)

-- rows that rise by name, and the map that they are
pub record AreMap (rows : List Row) (self : map_of.FinMap name_cmp Plan) : Type 0 where
  pub rising : IsTrue (is_sorted name_cmp rows)
  pub map_is : as_map rows ≡ self

get_of : {rows : List Row} {self : map_of.FinMap name_cmp Plan} (name : List ℕ) → AreMap rows self → get self name ≡ find name_cmp name rows
get_of {rows} name are = ap (λ m. get m name) (sym are.map_is) ∙ get-from_sorted name_cmp rows name (holds _ are.rising)

-- the rows before a name's place are below it, and those after above
module _ {name : List ℕ} {rows prefix back : List Row} (rising : IsTrue (is_sorted name_cmp rows)) where
  module _ (split : IsSplit name rows prefix [] back) where
    rising_apart : IsTrue (is_sorted name_cmp (prefix ++ back))
    rising_apart = rw split.all at rising

    below_none : AllBelow name prefix
    below_none = all_below name prefix back rising_apart split.stands.0

    none_there : find name_cmp name rows ≡ None
    none_there = ap (find name_cmp name) split.all ∙ find_missing name prefix back rising_apart below_none split.stands.1

  module _ (e : Row) (split : IsSplit name rows prefix (e ∷ []) back) where
    same : e.0 ≡ name
    same = sym (exact_bytes name e.0 split.stands)

    whole : IsTrue (is_sorted name_cmp (prefix ++ e ∷ back))
    whole = rw split.all at rising

    below : AllBelow name prefix
    below = rw same at (all_before prefix back e whole)

    some_there : find name_cmp name rows ≡ Some e.1
    some_there = ap (find name_cmp name) split.all ∙ find_there name prefix back e below split.stands

-- what a look-up of a name may answer
pub record IsLookedUp (self : map_of.FinMap name_cmp Plan) (name : List ℕ) (r : Option (Bor Row)) : Type 0 where
  pub found : IfSome r (λ e. get self name ≡ Some e.now.1)
  pub named : IfSome r (λ e. e.now.0 ≡ name)
  pub missing : IfNone r (get self name ≡ None)

pub looked_up : {rows : List Row} {self : map_of.FinMap name_cmp Plan} {name : List ℕ} → AreMap rows self → (r : Option (Bor Row)) → IsFound name rows (option_copied r) → IsLookedUp self name r
looked_up {name = name} are None found = record { found = tt; named = tt; missing = get_of name are ∙ none_there are.rising found.split }
looked_up {name = name} are (Some e) found =
    record { found = get_of name are ∙ some_there are.rising e.now found.split; named = sym (exact_bytes name e.now.0 found.split.stands); missing = tt }

-- a row that is put
put_in : (name : List ℕ) (v : Plan) (rows prefix here back : List Row) → IsSplit name rows prefix here back → IsTrue (is_sorted name_cmp rows) → put name_cmp name v rows ≡ prefix ++ (name, v) ∷ back
put_in name v rows prefix [] back split rising = ap (put name_cmp name v) split.all ∙ put_between name v prefix back (below_none rising split) split.stands.1
put_in name v rows prefix (e ∷ []) back split rising =
    ap (put name_cmp name v) split.all ∙ put_there name v prefix back e (below rising e split) split.stands ∙ ap (λ (k : List ℕ). prefix ++ (k, v) ∷ back) (same rising e split)
put_in name v rows prefix (e ∷ f ∷ es) back split rising = absurd split.stands

module _ {row : Row} {rows new : List Row} {self : map_of.FinMap name_cmp Plan} (are : AreMap rows self) (made : IsPut row rows new) where
  entries_after : entries (map_of.insert (as_map rows) row.0 row.1) ≡ new
  entries_after = entries-insert nat_list_cmp_total (as_map rows) row.0 row.1 ∙ ap (put name_cmp row.0 row.1) (entries_of rows are.rising)
      ∙ put_in row.0 row.1 rows made.prefix made.here made.back made.split are.rising ∙ sym made.new_is

  rising_after : IsTrue (is_sorted name_cmp new)
  rising_after = rw entries_after at (is_true _ (entries_sorted (map_of.insert (as_map rows) row.0 row.1)))

  pub map_put : AreMap new (map_of.insert self row.0 row.1)
  map_put = record {
    rising = rising_after;
    map_is = same_entries_map _ _ (entries_of new rising_after ∙ sym entries_after) ∙ ap (λ m. map_of.insert m row.0 row.1) are.map_is;
  }

-- what an order is that is found equal
pub equal : (o : Ordering) → is_eq o ≡ true → o ≡ Equal
equal Equal t = refl
equal _ t = cc

-- a row that is put to others is taken away again
removed_inserted : (m : map_of.FinMap name_cmp Plan) (name : List ℕ) (v : Plan) → get m name ≡ None → map_of.remove (map_of.insert m name v) name ≡ m
removed_inserted m name v none = same_map nat_list_cmp_total exact_bytes _ m
    (λ q. get-remove nat_list_cmp_total (map_of.insert m name v) name q ∙ ap (cond (eq_by_cmp name_cmp q name) None) (get-insert nat_list_cmp_total m name v q)
    ∙ by_name q (eq_by_cmp name_cmp q name) refl)
  where
    by_name : (q : List ℕ) (b : Bool) → eq_by_cmp name_cmp q name ≡ b → cond b None (cond b (Some v) (get m q)) ≡ get m q
    by_name q true same = sym (ap (get m) (exact_bytes q name (equal (name_cmp q name) same)) ∙ none)
    by_name q false same = refl

-- a row less
module _ {rows prefix back : List Row} {self : map_of.FinMap name_cmp Plan} {name : List ℕ} (are : AreMap rows self) (e : Row) (split : IsSplit name rows prefix (e ∷ []) back) where
  left : AreMap (prefix ++ back) (as_map (prefix ++ back))
  left = record { rising = rising_without prefix back e (whole are.rising e split); map_is = refl }

  starts : StartsAbove name back
  starts = rw (same are.rising e split) at (above_after e back (rising_back prefix (e ∷ back) (whole are.rising e split)))

  back_again : map_of.insert (as_map (prefix ++ back)) name e.1 ≡ self
  back_again = same_entries_map _ self (entries-insert nat_list_cmp_total (as_map (prefix ++ back)) name e.1 ∙ ap (put name_cmp name e.1) (entries_of (prefix ++ back) left.rising)
      ∙ put_between name e.1 prefix back (below are.rising e split) starts ∙ ap (λ (k : List ℕ). prefix ++ (k, e.1) ∷ back) (sym (same are.rising e split))
      ∙ sym split.all ∙ sym (entries_of rows are.rising) ∙ ap entries are.map_is)

  less_there : AreMap (prefix ++ back) (map_of.remove self name)
  less_there = record {
    rising = left.rising;
    map_is = sym (removed_inserted (as_map (prefix ++ back)) name e.1 (get_of name left ∙ find_missing name prefix back left.rising (below are.rising e split) starts))
        ∙ ap (λ m. map_of.remove m name) back_again;
  }

less_by : {rows prefix back : List Row} {self : map_of.FinMap name_cmp Plan} {name : List ℕ} (here : List Row) → AreMap rows self → IsSome (get self name) → IsSplit name rows prefix here back → AreMap (prefix ++ back) (map_of.remove self name)
less_by {name = name} [] are some split = let clash : false ≡ true = rw (get_of name are ∙ none_there are.rising split) at some in absurd (cc)
less_by (e ∷ []) are some split = less_there are e split
less_by (e ∷ f ∷ es) are some split = absurd split.stands

pub is_less : {rows new : List Row} {self : map_of.FinMap name_cmp Plan} {name : List ℕ} → AreMap rows self → IsSome (get self name) → IsRemoved name rows new → AreMap new (map_of.remove self name)
is_less are some r = rw r.new_is (less_by r.here are some r.split)
