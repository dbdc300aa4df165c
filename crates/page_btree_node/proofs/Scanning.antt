-- A page's entries, read one after the other.
use Rattle.std.specs.{List.All, Option.option_map, Ordering.is_gt, Prelude.{false, true, Result, Ok, Err, IfOk, Some}, declared.cmp.Ordering.{Ordering, TheVariants.Greater}}
use Rattle.std.proofs.Common.{rules, ◌≡◌, ◌≢◌, ℕ, ◌+◌, ◌-◌, ◌*◌, ◌/◌, ◌%◌, ◌<◌, ◌≤◌, List, [], ◌∷◌, ◌++◌, length, take, drop, get_or, set, refl, sym, ap, subst, ◌∙◌, arith, suc, length-take}
use Rattle.{std.proofs.{Math.Seq.take-add, lemmas.List.Elements.All-more}, page_btree_node.specs.{Bytes.{LiesAt, LiesNot}, Held.{held_node, IsHeld}, Places.floor}}
use Rattle.std.proofs.lemmas.List.{take_all, drop-drop, take-append-le, drop-append-le, drop_more, length-take-le, length-drop, get_or-drop, take_more, length-set}
use Rattle.page_btree_node.specs.{Entries.{key_at, value_at, first_of, after, read_from, key_length, value_length, child_in}, Searching.IsLast, claim.Node.{Node, IsNode, count_in}}
use Rattle.page_btree_node.{specs.claim.{Entries.{Entry, IsEntry, entry_bytes, entry_size, body_of, size_of}, Places.key_cmp}, proofs.Laws.floor_stop}
use Rattle.page_btree_node.proofs.EntryLists.{body-append, length-body, length-read, read_at, size-take_more, drop_three}
use Rattle.page_btree_node.proofs.Standing.{Stands, IsEntryOf, nothing, entry_in, to_held, view_of}

-- ---- the first entry of bytes
pub record Lying (bytes : List ℕ) : Type 0 where
  pub key : length (first_of bytes).0 ≡ key_length bytes
  pub value : length (first_of bytes).1 ≡ value_length bytes
  pub whole : take (3 + key_length bytes + value_length bytes) bytes ≡ entry_bytes (first_of bytes)

halves : (b c : ℕ) → c < 256 → ((256 * b + c) / 256 ≡ b) × ((256 * b + c) % 256 ≡ c)
halves b c few = (omega arith, omega arith)

pub lying : (bytes : List ℕ) → ((i : ℕ) → get_or bytes i 0 < 256) → 3 + key_length bytes + value_length bytes ≤ length bytes → Lying bytes
lying (a ∷ b ∷ c ∷ xs) small long = search (arith, halves b c (small 2), length-take-le a xs (omega arith), drop_three a a b c xs, length-drop a xs, length-take-le, take-add)
lying _ small long = absurd (omega arith)

-- ---- an entry of a page's node
pub entry_of : (page : List ℕ) (node : Node) (k at : ℕ) → IsNode page node → k < length node.entries → at ≡ 4 + size_of (take k node.entries) → IsEntryOf page node.entries k at
entry_of page node k at is within place = entry_in page node.entries k at is.body is.shape.entries within place

-- an entry that is one of the node's is found to lie in the page
pub lies_there : (page : List ℕ) (node : Node) (k at : ℕ) → IsNode page node → k < length node.entries → at ≡ 4 + size_of (take k node.entries) → LiesNot page at → ⊥
lies_there page node k at is within place not_there = let fits = is.fits in search (arith, entry_of page node k at is within place)

-- where it ends, and what its parts are
pub end_there : (page : List ℕ) (es : List Entry) (k at value end : ℕ) → IsEntryOf page es k at → LiesAt page at value end → end ≡ 4 + size_of (take (k + 1) es)
end_there page es k at value end e lies = omega arith

pub key_there : (page : List ℕ) (at value end : ℕ) → LiesAt page at value end → take (value - (at + 3)) (drop (at + 3) page) ≡ (first_of (drop at page)).0
key_there page at value end lies = search (arith, drop-drop 3 at page)

pub value_there : (page : List ℕ) (at value end : ℕ) → LiesAt page at value end → take (end - value) (drop value page) ≡ (first_of (drop at page)).1
value_there page at value end lies = search (rules, drop-drop)

-- ---- a page's entries, as far as k
pub record IsScanned (level count : ℕ) (page marks : List ℕ) (k at : ℕ) : Type 0 where
  pub long : length marks ≡ 1366
  pub within : at ≤ 4096
  pub at_is : at ≡ 4 + size_of (take k (read_from count (drop 4 page)))
  pub rest : drop k (read_from count (drop 4 page)) ≡ read_from (count - k) (drop at page)
  pub body : take (size_of (take k (read_from count (drop 4 page)))) (drop 4 page) ≡ body_of (take k (read_from count (drop 4 page)))
  pub entries : All IsEntry (take k (read_from count (drop 4 page)))
  pub children : 0 < level → All (λ e. length e.1 ≡ 4) (take k (read_from count (drop 4 page)))
  pub places : (j : ℕ) → j ≤ k → get_or marks j 0 ≡ 4 + size_of (take j (read_from count (drop 4 page)))

pub scanned_next : (level count : ℕ) (page marks : List ℕ) (k at value end : ℕ) → IsScanned level count page marks k at → k < count → k + 1 < length marks → length page ≡ 4096 → ((i : ℕ) → get_or page i 0 < 256)
    → LiesAt page at value end → (0 < level → end - value ≡ 4) → IsScanned level count page (set marks (k + 1) end) (k + 1) end
scanned_next level count page marks k at value end s within room size small lies child =
    let all : List Entry = read_from count (drop 4 page) in
    let e : Entry = first_of (drop at page) in
    let n = length-read count (drop 4 page) in
    let inside : k < length all = omega arith in
    let long = length-drop at page in
    let l = lying (drop at page) (λ i. let P : ℕ → Type 0 = λ b. b < 256 in subst P (sym (get_or-drop at page i 0)) (small (at + i))) (omega arith) in
    let wide = l.value in
    let size_e : entry_size e ≡ 3 + key_length (drop at page) + value_length (drop at page) = omega arith in
    let one_more : count - k ≡ suc (count - (k + 1)) = omega arith in
    let rest : drop k all ≡ e ∷ read_from (count - (k + 1)) (after (drop at page)) = s.rest ∙ ap (λ m. read_from m (drop at page)) one_more in
    let parts : get_or all k nothing ∷ drop (k + 1) all ≡ e ∷ read_from (count - (k + 1)) (after (drop at page)) = sym (drop_more all k nothing inside) ∙ rest in
    let here : get_or all k nothing ≡ e = cc (parts) in
    let later : drop (k + 1) all ≡ read_from (count - (k + 1)) (after (drop at page)) = cc (parts) in
    let sum : at + (3 + key_length (drop at page) + value_length (drop at page)) ≡ end = omega arith in
    let end_at : end ≡ at + entry_size e = omega arith in
    let more : size_of (take (k + 1) all) ≡ size_of (take k all) + entry_size e = size-take_more all k nothing inside ∙ ap (λ f. size_of (take k all) + entry_size f) here in
    let at_is = s.at_is in
    let new_at : end ≡ 4 + size_of (take (k + 1) all) = omega arith in
    let place : drop (size_of (take k all)) (drop 4 page) ≡ drop at page = drop-drop (size_of (take k all)) 4 page ∙ ap (λ m. drop m page) (sym at_is) in
    let entry_body : take (entry_size e) (drop (size_of (take k all)) (drop 4 page)) ≡ entry_bytes e = ap (take (entry_size e)) place ∙ ap (λ m. take m (drop at page)) size_e ∙ l.whole in
    let taken : take (k + 1) all ≡ take k all ++ e ∷ [] = take_more all k nothing inside ∙ ap (λ f. take k all ++ f ∷ []) here in
    record {
      long = length-set marks (k + 1) end ∙ s.long;
      within = lies.within;
      at_is = new_at;
      rest = later ∙ ap (read_from (count - (k + 1))) (drop-drop (3 + key_length (drop at page) + value_length (drop at page)) at page ∙ ap (λ m. drop m page) sum);
      body = search (rules, take-add, body-append);
      entries = All-more IsEntry all k nothing inside s.entries (subst IsEntry (sym here) lies.entry);
      children = λ inner. All-more (λ (f : Entry). length f.1 ≡ 4) all k nothing inside (s.children inner) (let P : Entry → Type 0 = λ f. length f.1 ≡ 4 in let four = child inner in subst P (sym here) (wide ∙ omega arith));
      places = λ j le. search rules;
    }

-- the entries of a node that the page stands for
pub scanned_place : (level count : ℕ) (page marks : List ℕ) (k at : ℕ) (node : Node) → IsScanned level count page marks k at → count ≡ count_in page → IsNode page node → (at ≡ 4 + size_of (take k node.entries)) × (count ≡ length node.entries)
scanned_place level count page marks k at node s counted is = search (rules, read_at)

pub scanned_not : (level count : ℕ) (page marks : List ℕ) (k at : ℕ) → IsScanned level count page marks k at → k < count → count ≡ count_in page → LiesNot page at → (node : Node) → IsNode page node → ⊥
scanned_not level count page marks k at s within counted not_there node is =
    lies_there page node k at is (omega arith) (scanned_place level count page marks k at node s counted is).0 not_there

pub scanned_no_child : (level count : ℕ) (page marks : List ℕ) (k at value end : ℕ) → IsScanned level count page marks k at → k < count → count ≡ count_in page → level ≡ get_or page 0 0 → LiesAt page at value end → 0 < level → end - value ≢ 4 → (node : Node) → IsNode page node → ⊥
scanned_no_child level count page marks k at value end s within counted is_level lies inner differs node is =
    let e = entry_of page node k at is (omega arith) (scanned_place level count page marks k at node s counted is).0 in
    let four = is.shape.children (omega arith) k nothing (omega arith) in
    differs (omega arith)

pub scanned_end : (level count : ℕ) (page marks : List ℕ) (k at : ℕ) → IsScanned level count page marks k at → k ≡ count → level ≤ 5 → count ≤ 1364 → IsHeld level count marks page
scanned_end level count page marks k at s is low few =
    let all : IsScanned level count page marks count at = subst (λ (q : ℕ). IsScanned level count page marks q at) is s in search (rules, length-read, take_all)

-- ---- a page in a buffer
pub held_size : (level count : ℕ) (marks page : List ℕ) → length page ≡ 4096 → IsHeld level count marks page → size_of (read_from count (drop 4 page)) ≤ 4092
held_size level count marks page long held = search (rules, length-body, length-take)

pub page_stands : (level count : ℕ) (marks page rest : List ℕ) → length page ≡ 4096 → IsHeld level count marks page → Stands level (read_from count (drop 4 page)) marks (page ++ rest)
page_stands level count marks page rest long held =
    let es : List Entry = read_from count (drop 4 page) in
    let small = held_size level count marks page long held in
    let n = length-read count (drop 4 page) in
    let few = held.few in
    let after_four = length-drop 4 page in
    let body = ap (take (size_of es)) (drop-append-le 4 page rest (omega arith)) ∙ take-append-le (size_of es) (drop 4 page) rest (omega arith) ∙ held.body in
    search (arith, body)

pub page_node : (level count : ℕ) (marks page : List ℕ) (node : Node) → length page ≡ 4096 → IsHeld level count marks page → level ≡ get_or page 0 0 → count ≡ count_in page → node ≡ record { level = level; entries = read_from count (drop 4 page) } → IsNode page node
page_node level count marks page node long held is_level counted is = search (rules, length-read count (drop 4 page), held_size level count marks page long held)

pub read_held : (count level : ℕ) (marks page moved rest : List ℕ) → moved ≡ page → length page ≡ 4096 → IsHeld level count marks page → IsHeld level count marks (moved ++ rest)
read_held count level marks page moved rest same long held =
    search (rules, to_held level (read_from count (drop 4 page)) marks (page ++ rest) count (page_stands level count marks page rest long held) (sym (length-read count (drop 4 page))))

pub read_node : (count : ℕ) (marks page moved rest : List ℕ) → moved ≡ page → length page ≡ 4096 → IsHeld (get_or page 0 0) count marks page → count ≡ count_in page → IsNode page (held_node (get_or page 0 0) count (moved ++ rest))
read_node count marks page moved rest same long held counted =
    let P : List ℕ → Type 0 = λ b. IsNode page (held_node (get_or page 0 0) count (b ++ rest)) in
    subst P (sym same) (page_node (get_or page 0 0) count marks page _ long held refl counted
    (view_of (get_or page 0 0) (read_from count (drop 4 page)) marks (page ++ rest) count (page_stands (get_or page 0 0) count marks page rest long held) (sym (length-read count (drop 4 page)))))

-- ---- a search for the last key that isn't above a key
-- the key and the value of an entry that lies in the page
pub key_part : (page : List ℕ) (es : List Entry) (k at value end : ℕ) → IsEntryOf page es k at → LiesAt page at value end → take (value - (at + 3)) (drop (at + 3) page) ≡ key_at es k
key_part page es k at value end e lies = key_there page at value end lies ∙ ap (λ (f : Entry). f.0) e.first

pub value_part : (page : List ℕ) (es : List Entry) (k at value end : ℕ) → IsEntryOf page es k at → LiesAt page at value end → take (end - value) (drop value page) ≡ value_at es k
value_part page es k at value end e lies = value_there page at value end lies ∙ ap (λ (f : Entry). f.1) e.first

-- where an entry of a node ends, and what is told of its key
pub end_of : (page : List ℕ) (node : Node) (k at value end : ℕ) → IsNode page node → k < length node.entries → at ≡ 4 + size_of (take k node.entries) → LiesAt page at value end → end ≡ 4 + size_of (take (k + 1) node.entries)
end_of page node k at value end is within place = end_there page node.entries k at value end (entry_of page node k at is within place)

pub told_of : {A : Type 0} (f : Ordering → A) (page key : List ℕ) (node : Node) (k at value end : ℕ) (b : A) → IsNode page node → k < length node.entries → at ≡ 4 + size_of (take k node.entries)
    → LiesAt page at value end → b ≡ f (key_cmp (take (value - (at + 3)) (drop (at + 3) page)) key) → f (key_cmp (key_at node.entries k) key) ≡ b
told_of f page key node k at value end b is within place lies told = ap (λ l. f (key_cmp l key)) (sym (key_part page node.entries k at value end (entry_of page node k at is within place) lies)) ∙ sym told

pub last_next : (page key : List ℕ) (node : Node) (k value at new_value end : ℕ) → IsNode page node → k < length node.entries → IsLast page key node.entries k value at → LiesAt page at new_value end
    → (0 < k → false ≡ is_gt (key_cmp (take (new_value - (at + 3)) (drop (at + 3) page)) key)) → IsLast page key node.entries (k + 1) new_value end
last_next page key node k value at new_value end is within l lies told =
    let e = entry_of page node k at is within l.place in
    let here : 0 < k → is_gt (key_cmp (key_at node.entries k) key) ≡ false = λ some. told_of is_gt page key node k at new_value end false is within l.place lies (told some) in
    search (rules, value_part)

-- the child that was found, and why none was
pub child_ok : {E : Type 0} (page key : List ℕ) (es : List Entry) (k value at : ℕ) (r : Result ℕ E) → IsLast page key es k value at → k ≤ length es → (k < length es → is_gt (key_cmp (key_at es k) key) ≡ true)
    → IfOk r (λ child. (0 < value) × (value + 4 ≡ at) × (child ≡ child_in (take 4 (drop value page)))) → IfOk r (λ child. option_map child_in (floor key es) ≡ Some child)
child_ok page key es k value at (Err e) l within above ok = tt
child_ok page key es k value at (Ok child) l within above ok =
    let next : 0 < k → k - 1 + 1 ≡ k = λ some. omega arith in
    let known : 0 < k → floor key es ≡ Some (value_at es (k - 1)) = λ some.
    floor_stop key es (k - 1) (omega arith) (λ j more le. l.below j more (omega arith)) (λ long. ap (λ i. is_gt (key_cmp (key_at es i) key)) (next some) ∙ above (let same = next some in omega arith)) in
    search rules

pub above_true : (r : Ordering) → is_gt r ≡ true → r ≡ Greater
above_true Greater h = refl
above_true _ h = cc
