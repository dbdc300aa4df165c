-- A leaf before the rows that are still to come.
use Rattle.std.{specs.{FinMap.{entries, entries_sorted}, List.starts_with, Ordering.is_gt, Prelude.{Option, Some, None, Result, OnOk}}, proofs.lemmas.List.nil_from_length}
use Rattle.std.proofs.Common.{rules, Ok, Err, ◌≡◌, ◌<◌, ◌+◌, ℕ, List, [], ◌∷◌, ◌++◌, length, nat_eq, Bool, true, false, cond, refl, sym, ap, subst, ◌∙◌, zero, suc, drop, get_or, append_assoc, arith}
use Rattle.{std.proofs.lemmas.List.Elements.All-nil, btree_scan.specs.{Parts.page_of, Prefixes.{under, AllFrom, AllUnder}, Turning.IsTurned, declared.held.HeldLeaves.HeldLeaves}}
use Rattle.btree_scan.specs.{Scanning.{IsReady, Rest, IsWithin, IsStep, IsTakenRow, ScanErr}, declared.{rows.Row.Row, scans.RowScan.RowScan}}
use Rattle.page_btree.specs.gets.{Seeking.{bound_in, IsNext, IsFrom, AreLeaves}, claim.{Errors.GetErr, Keys.KeyMap}, declared.{error.TreeError.TreeError, seeks.Leaf.Leaf}}
use Rattle.{page_btree.specs.node.{Places.entries_from, Walking.IsAhead, claim.{Entries.{Entry, IsEntry}, Places.{Rises, key_cmp}}}, page_store.specs.declared.pages.Pages.Pages}
use Rattle.{page_store.specs.declared.txn.Txn.Txn, sector_device.specs.declared.SectorDevice.Ghosts}
use Rattle.btree_scan.proofs.Prefixes.{under_from, under_is_from, none_under, rises_from_key, all_from_key, all_between, below_bound}
use Rattle.page_btree.proofs.gets.Booleans.{true_is}
use Rattle.page_btree.proofs.gets.Rows.{all_prefix}

pub no_others : (more : ℕ) (pages : List (List ℕ)) (rows : List Entry) → more ≡ 0 → AreLeaves more pages rows → rows ≡ []
no_others zero pages rows none are = are
no_others (suc m) pages rows none are = absurd (omega arith)

-- the beginning of one that goes over all rows from a key on
pub all_under : (key : List ℕ) → starts_with nat_eq key [] ≡ true
all_under [] = refl
all_under (x ∷ xs) = refl

pub under_nothing : (es : List Entry) → under [] es ≡ es
under_nothing [] = refl
under_nothing (e ∷ es) = ap (λ (b : Bool). cond b (e ∷ under [] es) (under [] es)) (all_under e.0) ∙ ap (λ (l : List Entry). e ∷ l) (under_nothing es)

pub all_from_nothing : (es : List Entry) → AllFrom [] es
all_from_nothing [] = tt
all_from_nothing (e ∷ es) = (under_is_from [] e.0 (all_under e.0), all_from_nothing es)

-- a scan's beginning: the first row to come is the first from a key on
module _ (scan : RowScan) (prefix key : List ℕ) (prefix_is : scan.prefix ≡ prefix) (uncovered : scan.covered ≡ false) (going : scan.ended ≡ false) (at : scan.leaf.at ≡ 0) (left : scan.leaf.left ≡ 0) (more : scan.leaf.more ≡ 0) (bound : bound_in scan.leaf ≡ Some key) (m : KeyMap) where
  begins : (rest : List Entry) → rest ≡ under prefix (entries_from key (entries m)) → AllFrom prefix (entries_from key (entries m)) → Rest scan (entries m) rest
  begins rest rest_are from =
      let ahead : IsAhead (page_of scan.held) scan.leaf.at [] = record { body = refl; entries = All-nil IsEntry; within = omega arith } in
      let others : AreLeaves scan.leaf.more (drop (scan.held.which + 1) scan.held.pages) [] = subst (λ (n : ℕ). AreLeaves n (drop (scan.held.which + 1) scan.held.pages) []) (sym more) refl in
      let next : IsNext (bound_in scan.leaf) (entries m) (entries_from key (entries m)) = subst (λ (b : Option (List ℕ)). IsNext b (entries m) (entries_from key (entries m))) (sym bound) refl in
      let rises = rises_from_key key (entries m) (true_is _ (entries_sorted m)) in
      let covers : false ≡ true → AllUnder prefix ([] ++ []) = λ covered. cc in
      let ready : IsReady false prefix scan.leaf scan.held (entries m) rest = search rules in
      search rules

pub rest_new : (scan : RowScan) (prefix : List ℕ) → scan.prefix ≡ prefix → scan.covered ≡ false → scan.ended ≡ false → scan.leaf.at ≡ 0 → scan.leaf.left ≡ 0 → scan.leaf.more ≡ 0 → bound_in scan.leaf ≡ Some prefix
    → (m : KeyMap) → Rest scan (entries m) (under prefix (entries m))
rest_new scan prefix prefix_is uncovered going at left more bound m = begins scan prefix prefix prefix_is uncovered going at left more bound m (under prefix (entries m)) (sym (under_from prefix (entries m))) (all_from_key prefix (entries m))

pub rest_from : (scan : RowScan) (key : List ℕ) → scan.prefix ≡ [] → scan.covered ≡ false → scan.ended ≡ false → scan.leaf.at ≡ 0 → scan.leaf.left ≡ 0 → scan.leaf.more ≡ 0 → bound_in scan.leaf ≡ Some key
    → (m : KeyMap) → Rest scan (entries m) (entries_from key (entries m))
rest_from scan key prefix_is uncovered going at left more bound m =
    let rows = entries_from key (entries m) in begins scan [] key prefix_is uncovered going at left more bound m rows (sym (under_nothing rows)) (all_from_nothing rows)

-- no row is left
none_left : (covered : Bool) (prefix : List ℕ) (leaf : Leaf) (held : HeldLeaves) (all rest : List Entry) (is : IsReady covered prefix leaf held all rest) → leaf.left ≡ 0 → leaf.more ≡ 0 → is.after ≡ [] → rest ≡ []
none_left covered prefix leaf held all rest is none alone last = search (rules, nil_from_length)

pub ready_last : (covered : Bool) (prefix : List ℕ) (leaf : Leaf) (held : HeldLeaves) (all rest : List Entry) → IsReady covered prefix leaf held all rest → bound_in leaf ≡ None → leaf.left ≡ 0 → leaf.more ≡ 0 → rest ≡ []
ready_last covered prefix leaf held all rest is bound none alone = none_left covered prefix leaf held all rest is none alone (subst (λ (b : Option (List ℕ)). IsNext b all is.after) bound is.next)

-- the next leaves are read
pub ready_read : (was now : Bool) (prefix b : List ℕ) (old leaf : Leaf) (before held : HeldLeaves) (all rest : List Entry) → IsReady was prefix old before all rest → old.left ≡ 0 → old.more ≡ 0 → bound_in old ≡ Some b → IsFrom b all leaf held.pages → held.which ≡ 0 → (now ≡ true → IsWithin prefix leaf) → IsReady now prefix leaf held all rest × (leaf.left ≡ 0 → leaf.more ≡ 0 → rest ≡ [])
ready_read was now prefix b old leaf before held all rest is none alone bound there first within =
    let here : is.here ≡ [] = nil_from_length is.here (sym is.left_is ∙ none) in
    let others : is.others ≡ [] = no_others old.more (drop (before.which + 1) before.pages) is.others alone is.others_are in
    let after : is.after ≡ entries_from b all = subst (λ (c : Option (List ℕ)). IsNext c all is.after) bound is.next in
    let same : is.here ++ (is.others ++ is.after) ≡ there.here ++ (there.others ++ there.after) = (λ i. here i ++ (others i ++ after i)) ∙ there.rows_are in
    let from : AllFrom prefix (there.here ++ (there.others ++ there.after)) = subst (λ (es : List Entry). AllFrom prefix es) same is.from in
    let joined : there.here ++ (there.others ++ there.after) ≡ (there.here ++ there.others) ++ there.after = sym (append_assoc there.here there.others there.after) in
    let ahead = subst (λ (n : ℕ). IsAhead (get_or {A = List ℕ} held.pages n []) leaf.at there.here) (sym first) there.ahead in
    let others_are = subst (λ (n : ℕ). AreLeaves leaf.more (drop (n + 1) held.pages) there.others) (sym first) there.others_are in
    let covers : now ≡ true → AllUnder prefix (there.here ++ there.others) = λ covered.
    let w = within covered in
    all_between prefix w.0 (there.here ++ there.others)
    (all_prefix (λ e. is_gt (key_cmp prefix e.0) ≡ false) (there.here ++ there.others) there.after (subst (λ (es : List Entry). AllFrom prefix es) joined from))
    (below_bound w.0 b all (there.here ++ there.others) there.after (there.rows_are ∙ joined) (subst (λ (c : Option (List ℕ)). IsNext c all there.after) w.1 there.next)) w.2 in
    let ready : IsReady now prefix leaf held all rest = search rules in
    (ready, λ nothing single. none_left now prefix leaf held all rest ready nothing single (there.some nothing single))

-- or the next one of those that are held is taken
pub ready_turn : (covered : Bool) (prefix : List ℕ) (old leaf : Leaf) (before held : HeldLeaves) (all rest : List Entry) (is : IsReady covered prefix old before all rest) → old.left ≡ 0 → IsTurned is.others leaf held → bound_in leaf ≡ bound_in old → IsReady covered prefix leaf held all rest × (leaf.left ≡ 0 → rest ≡ [])
ready_turn covered prefix old leaf before held all rest is none there bound =
    let here : is.here ≡ [] = nil_from_length is.here (sym is.left_is ∙ none) in
    let rows = there.rows_are in
    let same : is.here ++ (is.others ++ is.after) ≡ there.here ++ (there.others ++ is.after) = (λ i. here i ++ (rows i ++ is.after)) ∙ append_assoc there.here there.others is.after in
    let left = there.left_is in search rules

-- a row is taken
pub record IsHead (covered : Bool) (prefix : List ℕ) (leaf : Leaf) (held : HeldLeaves) (all rest : List Entry) : Type 0 where
  pub e : Entry
  pub es : List Entry
  pub ahead : IsAhead (page_of held) leaf.at (e ∷ es)
  pub goes : starts_with nat_eq e.0 prefix ≡ true → (next : Leaf) → IsAhead (page_of held) next.at es → next.left + 1 ≡ leaf.left → next.more ≡ leaf.more → bound_in next ≡ bound_in leaf → (more : List Entry) × (rest ≡ e ∷ more) × IsReady covered prefix next held all more
  pub on : covered ≡ true → starts_with nat_eq e.0 prefix ≡ true
  pub ends : starts_with nat_eq e.0 prefix ≡ false → rest ≡ []

pub head_of : (covered : Bool) (prefix : List ℕ) (leaf : Leaf) (held : HeldLeaves) (all rest : List Entry) → IsReady covered prefix leaf held all rest → 0 < leaf.left → IsHead covered prefix leaf held all rest
head_of covered prefix leaf held all rest is some = by is.here is.left_is is.ahead is.rest_are is.rises is.from is.covers
  where
    by : (here : List Entry) → leaf.left ≡ length here → IsAhead (page_of held) leaf.at here → rest ≡ under prefix (here ++ (is.others ++ is.after)) → Rises (here ++ (is.others ++ is.after)) → AllFrom prefix (here ++ (is.others ++ is.after)) → (covered ≡ true → AllUnder prefix (here ++ is.others)) → IsHead covered prefix leaf held all rest
    by [] left ahead rest_are rises from covers = absurd (omega arith)
    by (e ∷ es) left ahead rest_are rises from covers = search (rules, none_under)

pub step_of : (covered : Bool) (prefix : List ℕ) (leaf next : Leaf) (held : HeldLeaves) (row : Row) (all rest : List Entry) (h : IsHead covered prefix leaf held all rest) (found : Bool) → IsTakenRow h.e h.es row (page_of held) next.at → next.left + 1 ≡ leaf.left → next.more ≡ leaf.more → bound_in next ≡ bound_in leaf → found ≡ starts_with nat_eq row.key prefix → IsStep found covered prefix next held row all rest
step_of covered prefix leaf next held row all rest h true taken less same bound is = search rules
step_of covered prefix leaf next held row all rest h false taken less same bound is = h.ends (ap (λ (k : List ℕ). starts_with nat_eq k prefix) (sym taken.key_is) ∙ sym is)

-- the row of a covered leaf
pub covered_step : (covered : Bool) (prefix : List ℕ) (leaf next : Leaf) (held : HeldLeaves) (row : Row) (all rest : List Entry) (h : IsHead covered prefix leaf held all rest) → covered ≡ true → IsTakenRow h.e h.es row (page_of held) next.at → next.left + 1 ≡ leaf.left → next.more ≡ leaf.more → bound_in next ≡ bound_in leaf → IsStep true covered prefix next held row all rest
covered_step covered prefix leaf next held row all rest h is taken less same bound = step_of covered prefix leaf next held row all rest h true taken less same bound (sym (ap (λ (k : List ℕ). starts_with nat_eq k prefix) taken.key_is ∙ h.on is))

-- ---- refusals
module _ {D : Type 0} {g : Ghosts D} where
  pub scan_fails : (can : KeyMap → Type 0) (t : Txn) (old new : Pages D g) (e : TreeError) → GetErr t old new e → ScanErr can t old new e
  scan_fails can t old new = search rules

  pub scan_wider : (can more : KeyMap → Type 0) (t : Txn) (old new : Pages D g) → ((m : KeyMap) → more m → can m) → (e : TreeError) → ScanErr can t old new e → ScanErr more t old new e
  scan_wider can more t old new f = search rules

-- what follows of a result
pub ok_then : {T E : Type 0} (r : Result T E) (A B : Type 0) → OnOk r A → (A → B) → OnOk r B
ok_then (Ok x) A B is gives = gives is
ok_then (Err e) A B is gives = tt
