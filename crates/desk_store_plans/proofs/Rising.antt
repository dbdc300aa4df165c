-- Rows that rise by name: what stands before and after a name's place, and what is found there.
use Rattle.std.specs.{Cmp.Lexicographic.nat_list_cmp_total, FinMap.{put, find, is_sorted, Entries.{by_order, below_all}}, Ordering.{is_lt, is_eq, ordering_reverse}}
use Rattle.std.{specs.declared.cmp.Ordering.{Ordering, TheVariants.{Less, Equal, Greater}}, proofs.lemmas.Bool.{and_from, and_parts}}
use Rattle.{std.proofs.Common.{◌≡◌, ℕ, ◌<◌, true, cond, List, [], ◌∷◌, ◌++◌, length, IsTrue, Some, None, arith, refl, ap, ◌∙◌}, desk_model.specs.claim.Desk.{Plan, name_cmp}}
use Rattle.desk_store_plans.specs.Rows.{Row, EndsBelow, StartsAbove}

-- a test's answer and the order after it
less : (o : Ordering) → is_lt o ≡ true → o ≡ Less
less Less t = refl
less _ t = cc

pub turned : (x y : List ℕ) → is_lt (name_cmp x y) ≡ true → name_cmp y x ≡ Greater
turned x y t = nat_list_cmp_total.antisymm y x ∙ ap ordering_reverse (less _ t)

transitive : (x y z : List ℕ) → is_lt (name_cmp x y) ≡ true → is_lt (name_cmp y z) ≡ true → is_lt (name_cmp x z) ≡ true
transitive x y z p q = ap is_lt (nat_list_cmp_total.trans x y z (less _ p) (less _ q))

-- every row of them is below the name
abbrev pub AllBelow : List ℕ → List Row → Type 0
AllBelow k [] = Unit {0}
AllBelow k (e ∷ es) = (is_lt (name_cmp e.0 k) ≡ true) × AllBelow k es

-- where rows rise, all are below what the last is below
pub all_below : (k : List ℕ) (es fs : List Row) → IsTrue (is_sorted name_cmp (es ++ fs)) → EndsBelow k es → AllBelow k es
all_below k [] fs rising ends = tt
all_below k (e ∷ []) fs rising ends = (ends, tt)
all_below k (e ∷ f ∷ es) fs rising ends =
    let rest = all_below k (f ∷ es) fs (and_parts _ _ rising).1 ends in
    (transitive e.0 f.0 k (and_parts _ _ (and_parts _ _ rising).0).0 rest.0, rest)

-- rows that rise still do without one of them
below_without : (k : List ℕ) (es fs : List Row) (e : Row) → IsTrue (below_all name_cmp k (es ++ e ∷ fs)) → IsTrue (below_all name_cmp k (es ++ fs))
below_without k [] fs e below = (and_parts _ _ below).1
below_without k (d ∷ es) fs e below = let both = and_parts _ _ below in and_from _ _ both.0 (below_without k es fs e both.1)

pub rising_without : (es fs : List Row) (e : Row) → IsTrue (is_sorted name_cmp (es ++ e ∷ fs)) → IsTrue (is_sorted name_cmp (es ++ fs))
rising_without [] fs e rising = (and_parts _ _ rising).1
rising_without (d ∷ es) fs e rising = let both = and_parts _ _ rising in and_from _ _ (below_without d.0 es fs e both.0) (rising_without es fs e both.1)

-- what follows a row is above its name
pub above_after : (e : Row) (fs : List Row) → IsTrue (is_sorted name_cmp (e ∷ fs)) → StartsAbove e.0 fs
above_after e [] rising = tt
above_after e (f ∷ fs) rising = (and_parts _ _ (and_parts _ _ rising).0).0

pub rising_back : (es fs : List Row) → IsTrue (is_sorted name_cmp (es ++ fs)) → IsTrue (is_sorted name_cmp fs)
rising_back [] fs rising = rising
rising_back (e ∷ es) fs rising = rising_back es fs (and_parts _ _ rising).1

-- a new row goes after those below its name
put_after : (k : List ℕ) (v : Plan) (es fs : List Row) → AllBelow k es → put name_cmp k v (es ++ fs) ≡ es ++ put name_cmp k v fs
put_after k v [] fs below = refl
put_after k v (e ∷ es) fs below =
    ap (λ o. by_order o ((k, v) ∷ e ∷ es ++ fs) ((e.0, v) ∷ es ++ fs) (e ∷ put name_cmp k v (es ++ fs))) (turned e.0 k below.0)
    ∙ ap (λ rest. e ∷ rest) (put_after k v es fs below.1)

-- and before those above
pub put_between : (k : List ℕ) (v : Plan) (es fs : List Row) → AllBelow k es → StartsAbove k fs → put name_cmp k v (es ++ fs) ≡ es ++ (k, v) ∷ fs
put_between k v es [] below above = put_after k v es [] below
put_between k v es (f ∷ fs) below above = put_after k v es (f ∷ fs) below ∙ ap (λ o. es ++ by_order o ((k, v) ∷ f ∷ fs) ((f.0, v) ∷ fs) (f ∷ put name_cmp k v fs)) (less _ above)

-- a row under the same name takes the place of the one that is there
pub put_there : (k : List ℕ) (v : Plan) (es fs : List Row) (e : Row) → AllBelow k es → name_cmp k e.0 ≡ Equal → put name_cmp k v (es ++ e ∷ fs) ≡ es ++ (e.0, v) ∷ fs
put_there k v es fs e below same = put_after k v es (e ∷ fs) below ∙ ap (λ o. es ++ by_order o ((k, v) ∷ e ∷ fs) ((e.0, v) ∷ fs) (e ∷ put name_cmp k v fs)) same

-- a name is not found among those below it
skip_below : (k : List ℕ) (es fs : List Row) → AllBelow k es → find name_cmp k (es ++ fs) ≡ find name_cmp k fs
skip_below k [] fs below = refl
skip_below k (e ∷ es) fs below = ap (λ o. cond (is_eq o) (Some e.1) (find name_cmp k (es ++ fs))) (turned e.0 k below.0) ∙ skip_below k es fs below.1

starts_above : (k : List ℕ) (e : Row) (es : List Row) → is_lt (name_cmp k e.0) ≡ true → IsTrue (is_sorted name_cmp (e ∷ es)) → StartsAbove k es
starts_above k e [] above rising = tt
starts_above k e (f ∷ es) above rising = transitive k e.0 f.0 above ((and_parts _ _ (and_parts _ _ rising).0).0)

skip_above : (k : List ℕ) (es : List Row) → StartsAbove k es → IsTrue (is_sorted name_cmp es) → find name_cmp k es ≡ None
skip_above k [] above rising = refl
skip_above k (e ∷ es) above rising =
    ap (λ o. cond (is_eq o) (Some e.1) (find name_cmp k es)) (less _ above) ∙ skip_above k es (starts_above k e es above rising) (and_parts _ _ rising).1

pub find_missing : (k : List ℕ) (es fs : List Row) → IsTrue (is_sorted name_cmp (es ++ fs)) → AllBelow k es → StartsAbove k fs → find name_cmp k (es ++ fs) ≡ None
find_missing k es fs rising below above = skip_below k es fs below ∙ skip_above k fs above (rising_back es fs rising)

pub find_there : (k : List ℕ) (es fs : List Row) (e : Row) → AllBelow k es → name_cmp k e.0 ≡ Equal → find name_cmp k (es ++ e ∷ fs) ≡ Some e.1
find_there k es fs e below same = skip_below k es (e ∷ fs) below ∙ ap (λ o. cond (is_eq o) (Some e.1) (find name_cmp k fs)) same

-- the ends of rows that are put together
pub ends_below_last : (k : List ℕ) (es fs : List Row) → 0 < length fs → EndsBelow k fs → EndsBelow k (es ++ fs)
ends_below_last k es [] some q = absurd (omega arith)
ends_below_last k [] (f ∷ fs) some q = q
ends_below_last k (e ∷ []) (f ∷ fs) some q = q
ends_below_last k (e ∷ e' ∷ es) (f ∷ fs) some q = ends_below_last k (e' ∷ es) (f ∷ fs) some q

below_there : (n : List ℕ) (es fs : List Row) (e : Row) → IsTrue (below_all name_cmp n (es ++ e ∷ fs)) → is_lt (name_cmp n e.0) ≡ true
below_there n [] fs e below = (and_parts _ _ below).0
below_there n (d ∷ es) fs e below = below_there n es fs e (and_parts _ _ below).1

-- where rows rise, those before one are below its name
pub all_before : (es fs : List Row) (e : Row) → IsTrue (is_sorted name_cmp (es ++ e ∷ fs)) → AllBelow e.0 es
all_before [] fs e rising = tt
all_before (d ∷ es) fs e rising = let both = and_parts _ _ rising in (below_there d.0 es fs e both.0, all_before es fs e both.1)
