-- A row taken out of rows, and out of a map.
use Rattle.std.specs.{Cmp.Lexicographic.nat_list_cmp_total, FinMap.Entries.{by_order, find-put}, List.AllByRecursion, Ordering.{is_gt, is_eq, eq_by_cmp}}
use Rattle.std.specs.FinMap.{is_sorted, find, put, entries, get, same_entries_map, from_sorted, entries-from_sorted, entries-insert, get-insert, get-remove, same_map, get_tied, slice_cmp-IsAntisymmetric, nat_cmp-IsAntisymmetric, get-from_sorted, get-entries}
use Rattle.std.{specs.{Prelude.{insert, remove, Option, Some, None}, declared.cmp.Ordering.TheVariants.{Less, Equal, Greater}}, proofs.lemmas.Cmp.tied_itself}
use Rattle.std.proofs.Common.{rules, ◌≡◌, ℕ, zero, suc, ◌+◌, ◌<◌, ◌≤◌, List, [], ◌∷◌, length, get_or, Bool, true, false, cond, refl, sym, ap, subst, ◌∙◌, arith}
use Rattle.{std.proofs.lemmas.List.Edits.{get_or-remove_below, get_or-remove_above, length-remove}, page_btree_gets.specs.{claim.Keys.KeyMap, node.Entries.{key_at, value_at}}}
use Rattle.page_btree_gets.{specs.node.{Places.{IsFound, IsGap}, claim.{Entries.{Entry, size_of}, Places.{key_cmp, Rises}}}, proofs.Placed.is_equal as equal}
use Rattle.{page_btree_removes.specs.Removing.{unlinked, unlinked_from}, page_btree_gets.proofs.Rows.{rises_cons, rises_split}}
use Rattle.page_btree_gets.proofs.node.Laws.{gap_put, gap_find}
use Rattle.std.specs.FinMap as map

insert_remove : (es : List Entry) (i : ℕ) (d : Entry) → i < length es → insert (remove es i) i (get_or es i d) ≡ es
insert_remove [] i d within = absurd (omega arith)
insert_remove (e ∷ es) zero d within = refl
insert_remove (e ∷ es) (suc i) d within = ap (λ l. e ∷ l) (insert_remove es i d (omega arith))

pub size_remove : (es : List Entry) (i : ℕ) → size_of (remove es i) ≤ size_of es
size_remove [] zero = omega arith
size_remove [] (suc i) = omega arith
size_remove (e ∷ es) zero = omega arith
size_remove (e ∷ es) (suc i) = let rest = size_remove es i in omega arith

-- the place is then a gap
gap_remove : (key : List ℕ) (es : List Entry) (i : ℕ) → IsFound key es i → IsGap key (remove es i) i
gap_remove key es i found = search (rules, length-remove, get_or-remove_below, get_or-remove_above)

-- put back, it is as it was
pub put_remove : (key : List ℕ) (es : List Entry) (i : ℕ) → IsFound key es i → put key_cmp key (value_at es i) (remove es i) ≡ es
put_remove key es i found = search (rules, gap_put key (value_at es i) (remove es i) i (gap_remove key es i found), insert_remove es i ([], []) found.within)

pub none_removed : (key : List ℕ) (es : List Entry) (i : ℕ) → IsFound key es i → find key_cmp key (remove es i) ≡ None
none_removed key es i found = gap_find key (remove es i) i (gap_remove key es i found)

-- ---- what holds with a row holds without it

pub all_unput : (P : List ℕ → Type 0) (key value : List ℕ) (es : List Entry) → AllByRecursion (λ e. P e.0) (put key_cmp key value es) → AllByRecursion (λ e. P e.0) es
all_unput P key value [] h = tt
all_unput P key value (e ∷ es) h =
    elim (key_cmp key e.0) as (λ o. AllByRecursion (λ x. P x.0) (by_order o ((key, value) ∷ e ∷ es) ((e.0, value) ∷ es) (e ∷ put key_cmp key value es)) → AllByRecursion (λ x. P x.0) (e ∷ es)) [
      | Less ↦ λ g. g.1
      | Equal ↦ λ g. g
      | Greater ↦ λ g. (g.0, all_unput P key value es g.1)
    ] h

pub rises_unput : (key value : List ℕ) (es : List Entry) → Rises (put key_cmp key value es) → Rises es
rises_unput key value [] h = refl
rises_unput key value (e ∷ es) h =
    elim (key_cmp key e.0) as (λ o. is_sorted key_cmp (by_order o ((key, value) ∷ e ∷ es) ((e.0, value) ∷ es) (e ∷ put key_cmp key value es)) ≡ true → Rises (e ∷ es)) [
      | Less ↦ λ g. (rises_split (key, value) (e ∷ es) g).1
      | Equal ↦ λ g. g
      | Greater ↦ λ g. let r = rises_split e (put key_cmp key value es) g in rises_cons e es (all_unput (λ k. key_cmp e.0 k ≡ Less) key value es r.0) (rises_unput key value es r.1)
    ] h

pub found_put : (key value : List ℕ) (es : List Entry) → find key_cmp key (put key_cmp key value es) ≡ Some value
found_put key value es = find-put key_cmp nat_list_cmp_total key key value es ∙ ap (λ r. cond (is_eq r) (Some value) (find key_cmp key es)) (tied_itself nat_list_cmp_total key)

-- ---- maps

without_key : (b : Bool) (told found : Option (List ℕ)) → (b ≡ true → found ≡ None) → (b ≡ false → told ≡ found) → cond b None told ≡ found
without_key true told found none same = sym (none refl)
without_key false told found none same = same refl

-- a map whose rows are others with a key put that those don't have: the key removed, the others are left
pub remove_rows : (m : KeyMap) (key value : List ℕ) (rows : List Entry) → Rises rows → find key_cmp key rows ≡ None → put key_cmp key value rows ≡ entries m → entries (map.remove m key) ≡ rows
remove_rows m key value rows rises none rest =
    let n : KeyMap = from_sorted rows in
    let listed : entries n ≡ rows = entries-from_sorted key_cmp rows (search (rises)) in
    let put_in : map.insert n key value ≡ m = same_entries_map (map.insert n key value) m (entries-insert nat_list_cmp_total n key value ∙ ap (put key_cmp key value) listed ∙ rest) in
    let without : get n key ≡ None = get-from_sorted key_cmp rows key (search (rises)) ∙ none in
    let left : map.remove m key ≡ n = same_map nat_list_cmp_total (slice_cmp-IsAntisymmetric nat_cmp-IsAntisymmetric) (map.remove m key) n (λ q.
    get-remove nat_list_cmp_total m key q
    ∙ ap (λ (o : Option (List ℕ)). cond (eq_by_cmp key_cmp q key) None o) (ap (λ (k : KeyMap). get k q) (sym put_in) ∙ get-insert nat_list_cmp_total n key value q)
    ∙ without_key (eq_by_cmp key_cmp q key) _ (get n q) (λ tied. sym (get_tied nat_list_cmp_total n q key (equal (key_cmp q key) tied)) ∙ without) (λ not. ap (λ b. cond b (Some value) (get n q)) not)) in
    ap (λ (k : KeyMap). entries k) left ∙ listed

-- and a key that no row has takes nothing away
pub remove_none : (m : KeyMap) (key : List ℕ) → find key_cmp key (entries m) ≡ None → map.remove m key ≡ m
remove_none m key none = same_map nat_list_cmp_total (slice_cmp-IsAntisymmetric nat_cmp-IsAntisymmetric) (map.remove m key) m (λ q.
    get-remove nat_list_cmp_total m key q
    ∙ without_key (eq_by_cmp key_cmp q key) (get m q) (get m q) (λ tied. sym (get_tied nat_list_cmp_total m q key (equal (key_cmp q key) tied)) ∙ get-entries m key ∙ none) (λ not. refl))

-- ---- links
unlinked_there : (key : List ℕ) (e : Entry) (es : List Entry) (i : ℕ) → i ≤ length es → ((j : ℕ) → j < i → is_gt (key_cmp (key_at es j) key) ≡ false) → (i < length es → is_gt (key_cmp (key_at es i) key) ≡ true) → remove (e ∷ es) i ≡ unlinked_from key e es
unlinked_there key e [] zero within below above = refl
unlinked_there key e [] (suc i) within below above = absurd (omega arith)
unlinked_there key e (d ∷ ds) zero within below above = sym (ap (λ (b : Bool). cond b (d ∷ ds) (e ∷ unlinked_from key d ds)) (above (omega arith)))
unlinked_there key e (d ∷ ds) (suc i) within below above =
    ap (λ l. e ∷ l) (unlinked_there key d ds i (omega arith) (λ j less. below (suc j) (omega arith)) (λ long. above (omega arith)))
    ∙ sym (ap (λ (b : Bool). cond b (d ∷ ds) (e ∷ unlinked_from key d ds)) (below 0 (omega arith)))

-- the link before the first one whose key is above
pub unlinked_at : (key : List ℕ) (es : List Entry) (i : ℕ) → i < length es → ((j : ℕ) → 0 < j → j < i + 1 → is_gt (key_cmp (key_at es j) key) ≡ false) → (i + 1 < length es → is_gt (key_cmp (key_at es (i + 1)) key) ≡ true) → remove es i ≡ unlinked key es
unlinked_at key [] i within below above = absurd (omega arith)
unlinked_at key (e ∷ es) i within below above =
    let next : i + 1 ≡ suc i = omega arith in
    unlinked_there key e es i (omega arith) (λ j less. below (suc j) (omega arith) (omega arith)) (λ long. subst (λ (k : ℕ). is_gt (key_cmp (key_at (e ∷ es) k) key) ≡ true) next (above (omega arith)))
