-- Entries that stand in bytes, with the places where they end.
use Rattle.std.{specs.List.{All, copy_within}, proofs.{Math.Seq.{take-append-add, take-add}, lemmas.List.Elements.{All-append, All-take, All-drop}}}
use Rattle.std.proofs.Common.{rules, ◌≡◌, ℕ, ◌+◌, ◌-◌, ◌<◌, ◌≤◌, List, [], ◌++◌, length, take, drop, get_or, sym, ap, ◌∙◌, arith, append_assoc, length-append, take-append-drop, ◌⊎◌, inl, inr}
use Rattle.std.proofs.lemmas.List.{take_at, take_all, drop_at, drop-drop, take-take, take-append-le, drop_more, length-take-le, length-drop}
use Rattle.page_btree_node.specs.{Bytes.with_entry, Entries.{key_at, value_at, first_of, read_from, key_length, value_length}, Held.{held_node, IsHeld}, claim.Node.{Node, IsShape}}
use Rattle.page_btree_node.specs.claim.Entries.{Entry, IsEntry, entry_bytes, entry_size, body_of, size_of}
use Rattle.page_btree_node.proofs.EntryLists.{body-append, size-append, length-body, length-read, value_length-entry, first-entry, read_at, size-parts, size-take_more, prefix_at, rest_at}

pub record Stands (level : ℕ) (es : List Entry) (marks bytes : List ℕ) : Type 0 where
  pub shape : IsShape (record { level = level; entries = es })
  pub few : length es ≤ 1365
  pub body : take (size_of es) (drop 4 bytes) ≡ body_of es
  pub room : size_of es ≤ 5191
  pub places : (k : ℕ) → k ≤ length es → get_or marks k 0 ≡ 4 + size_of (take k es)

-- what a buffer holds
pub record Opened (level count : ℕ) (marks bytes : List ℕ) (node : Node) : Type 0 where
  pub stands : Stands level node.entries marks bytes
  pub count_of : count ≡ length node.entries
  pub level_of : level ≡ node.level

pub opened : (level count : ℕ) (marks bytes : List ℕ) (node : Node) → IsHeld level count marks bytes → held_node level count bytes ≡ node → Opened level count marks bytes node
opened level count marks bytes node held is = search (rules, length-read)

pub entries_are : (level : ℕ) (es : List Entry) (marks bytes : List ℕ) (count : ℕ) → Stands level es marks bytes → count ≡ length es → read_from count (drop 4 bytes) ≡ es
entries_are level es marks bytes count s is = ap (λ n. read_from n (drop 4 bytes)) is ∙ read_at es (drop 4 bytes) s.body

-- entries that stand are what a buffer holds
pub view_of : (level : ℕ) (es : List Entry) (marks bytes : List ℕ) (count : ℕ) → Stands level es marks bytes → count ≡ length es → held_node level count bytes ≡ record { level = level; entries = es }
view_of level es marks bytes count s is = ap (λ l. record { level = level; entries = l }) (entries_are level es marks bytes count s is)

pub to_held : (level : ℕ) (es : List Entry) (marks bytes : List ℕ) (count : ℕ) → Stands level es marks bytes → count ≡ length es → IsHeld level count marks bytes
to_held level es marks bytes count s is = search (arith, entries_are level es marks bytes count s is)

-- ---- one entry
abbrev pub nothing : Entry
nothing = ([], [])

-- what its bytes say of it
pub record IsEntryOf (bytes : List ℕ) (es : List Entry) (k at : ℕ) : Type 0 where
  pub key : key_length (drop at bytes) ≡ length (key_at es k)
  pub value : value_length (drop at bytes) ≡ length (value_at es k)
  pub first : first_of (drop at bytes) ≡ get_or es k nothing
  pub within : at + entry_size (get_or es k nothing) ≤ 4 + size_of es
  pub entry : IsEntry (get_or es k nothing)
  pub next : at + entry_size (get_or es k nothing) ≡ 4 + size_of (take (k + 1) es)

pub entry_in : (bytes : List ℕ) (es : List Entry) (k at : ℕ) → take (size_of es) (drop 4 bytes) ≡ body_of es → All IsEntry es → k < length es → at ≡ 4 + size_of (take k es) → IsEntryOf bytes es k at
entry_in bytes es k at body entries within place =
    let from : List ℕ = drop (4 + size_of (take k es)) bytes in
    let n : ℕ = size_of (drop k es) in
    let whole : take n from ≡ body_of (drop k es) = ap (take n) (sym (drop-drop (size_of (take k es)) 4 bytes)) ∙ rest_at k es (drop 4 bytes) body in
    let after : List ℕ = body_of (drop (k + 1) es) ++ drop n from in
    let all : from ≡ entry_bytes (get_or es k nothing) ++ after =
    search (rules, take-append-drop n from, drop_more es k nothing within, append_assoc (entry_bytes (get_or es k nothing)) (body_of (drop (k + 1) es)) (drop n from)) in
    let here : drop at bytes ≡ entry_bytes (get_or es k nothing) ++ after = ap (λ n. drop n bytes) place ∙ all in
    let more = size-take_more es k nothing within in
    let parts = size-parts (k + 1) es in
    let value = ap value_length here ∙ value_length-entry (get_or es k nothing) after in
    let first = ap first_of here ∙ first-entry (get_or es k nothing) after in
    search (arith, ap key_length here, value, first, entries k nothing within)

pub key_read : (bytes : List ℕ) (es : List Entry) (k at : ℕ) → IsEntryOf bytes es k at → take (key_length (drop at bytes)) (drop (at + 3) bytes) ≡ key_at es k
key_read bytes es k at e = ap (take (key_length (drop at bytes))) (sym (drop-drop 3 at bytes)) ∙ ap (λ (f : Entry). f.0) e.first

pub value_read : (bytes : List ℕ) (es : List Entry) (k at : ℕ) → IsEntryOf bytes es k at → take (value_length (drop at bytes)) (drop (at + 3 + key_length (drop at bytes)) bytes) ≡ value_at es k
value_read bytes es k at e = search (rules, drop-drop, e.first)

-- in a buffer
pub held_entry : (level count : ℕ) (marks bytes : List ℕ) (node : Node) (i : ℕ) → IsHeld level count marks bytes → held_node level count bytes ≡ node → i < length node.entries
    → IsEntryOf bytes node.entries i (get_or marks i 0) × (i < 1365) × (size_of node.entries ≤ 5191)
held_entry level count marks bytes node i held is within =
    let s = (opened level count marks bytes node held is).stands in
    (entry_in bytes node.entries i (get_or marks i 0) s.body s.shape.entries within (s.places i (omega arith)), (let few = s.few in omega arith), s.room)

pub size_is : (level : ℕ) (es : List Entry) (marks bytes : List ℕ) → Stands level es marks bytes → get_or marks (length es) 0 ≡ 4 + size_of es
size_is level es marks bytes s = s.places (length es) (omega arith) ∙ ap (λ l. 4 + size_of l) (take_all (length es) es (omega arith))

-- ---- an edit: the entries from i up to j give way to others
abbrev pub edited : List Entry → ℕ → ℕ → List Entry → List Entry
edited es i j mid = take i es ++ (mid ++ drop j es)

pub size-edited : (es : List Entry) (i j : ℕ) (mid : List Entry) → size_of (edited es i j mid) ≡ size_of (take i es) + size_of mid + size_of (drop j es)
size-edited es i j mid = size-append (take i es) (mid ++ drop j es) ∙ (let n = size-append mid (drop j es) in omega arith)

pub length-edited : (es : List Entry) (i j : ℕ) (mid : List Entry) → i ≤ length es → length (edited es i j mid) ≡ i + length mid + (length es - j)
length-edited es i j mid le = search (rules, length-append, length-drop)

pub All-edited : (P : Entry → Type 0) (es : List Entry) (i j : ℕ) (mid : List Entry) → All P es → All P mid → All P (edited es i j mid)
All-edited P es i j mid all new = All-append P (take i es) (mid ++ drop j es) (All-take P i es all) (All-append P mid (drop j es) new (All-drop P j es all))

pub edited_prefix : (es : List Entry) (i j : ℕ) (mid : List Entry) (k : ℕ) → i ≤ length es → k ≤ i → take k (edited es i j mid) ≡ take k es
edited_prefix es i j mid k le low = search (length-take-le, take-append-le, take-take)

pub size-take_from : (es : List Entry) (j m : ℕ) → j ≤ m → size_of (take m es) ≡ size_of (take j es) + size_of (take (m - j) (drop j es))
size-take_from es j m le = search (arith, take-add j (m - j) es, size-append (take j es) (take (m - j) (drop j es)))

pub edited_back : (es : List Entry) (i j : ℕ) (mid : List Entry) (k m : ℕ) → i ≤ length es → j ≤ m → k + j ≡ i + length mid + m → size_of (take k (edited es i j mid)) + size_of (take j es) ≡ size_of (take i es) + size_of mid + size_of (take m es)
edited_back es i j mid k m le high sum =
    let r : ℕ = m - j in
    let at_k : k ≡ i + length mid + r = omega arith in
    let prefix : take (i + length mid + r) (edited es i j mid) ≡ take i es ++ (mid ++ take r (drop j es)) =
    search (rules, take-append-add (take i es) (mid ++ drop j es) (length mid + r), take-append-add mid (drop j es) r) in
    let a : size_of (take k (edited es i j mid)) ≡ size_of (take i es) + (size_of mid + size_of (take r (drop j es))) = rw at_k (search (rules, size-append)) in
    omega (arith, size-take_from es j m high)

pub body-edited : (es : List Entry) (i j : ℕ) (mid : List Entry) → body_of (edited es i j mid) ≡ body_of (take i es) ++ (body_of mid ++ body_of (drop j es))
body-edited es i j mid = body-append (take i es) (mid ++ drop j es) ∙ ap (λ b. body_of (take i es) ++ b) (body-append mid (drop j es))

-- the bytes of an edit
pub edited_bytes : (es : List Entry) (bytes new : List ℕ) (i j : ℕ) (mid : List Entry) (added tail : List ℕ) → take (size_of es) (drop 4 bytes) ≡ body_of es → 4 ≤ length bytes → added ≡ body_of mid
    → new ≡ take (4 + size_of (take i es)) bytes ++ (added ++ (take (size_of (drop j es)) (drop (4 + size_of (take j es)) bytes) ++ tail))
    → take (size_of (edited es i j mid)) (drop 4 new) ≡ body_of (edited es i j mid)
edited_bytes es bytes new i j mid added tail body long is_added is_new =
    let pre : List ℕ = body_of (take i es) in
    let post : List ℕ = body_of (drop j es) in
    let after : take (size_of (drop j es)) (drop (4 + size_of (take j es)) bytes) ≡ post = search (rules, rest_at) in
    let ahead : take (4 + size_of (take i es)) bytes ≡ take 4 bytes ++ pre = search (take-add, prefix_at) in
    let all : new ≡ take 4 bytes ++ (pre ++ (body_of mid ++ (post ++ tail))) = search rules in
    let cut : drop 4 new ≡ pre ++ (body_of mid ++ (post ++ tail)) = search rules in
    let joined : pre ++ (body_of mid ++ (post ++ tail)) ≡ body_of (edited es i j mid) ++ tail = search (append_assoc, body-edited) in
    ap (take (size_of (edited es i j mid))) (cut ∙ joined) ∙ take_at (body_of (edited es i j mid)) tail _ (length-body (edited es i j mid))

-- the places of an edit
pub edited_places : (es : List Entry) (marks new : List ℕ) (i j : ℕ) (mid : List Entry) → i ≤ j → j ≤ length es → length mid ≤ 1
    → ((k : ℕ) → k ≤ length es → get_or marks k 0 ≡ 4 + size_of (take k es))
    → ((k : ℕ) → k ≤ i → get_or new k 0 ≡ get_or marks k 0)
    → ((k m : ℕ) → k + j ≡ i + length mid + m → j ≤ m → m ≤ length es → get_or new k 0 + get_or marks j 0 ≡ get_or marks i 0 + size_of mid + get_or marks m 0)
    → (k : ℕ) → k ≤ length (edited es i j mid) → get_or new k 0 ≡ 4 + size_of (take k (edited es i j mid))
edited_places es marks new i j mid ordered within one places kept moved k le = elim (low_or_high k i (length mid) one) [
  | inl low ↦ kept k low ∙ places k (omega arith) ∙ ap (λ l. 4 + size_of l) (sym (edited_prefix es i j mid k (omega arith) low))
  | inr high ↦
      let n = length-edited es i j mid (omega arith) in
      let m : ℕ = k - (i + length mid) + j in
      let at_j = places j within in
      let at_m = places m (omega arith) in
      let there = moved k m (omega arith) (omega arith) (omega arith) in
      let back = edited_back es i j mid k m (omega arith) (omega arith) (omega arith) in
      omega arith
]
  where
    low_or_high : (k i n : ℕ) → n ≤ 1 → (k ≤ i) ⊎ (i + n ≤ k)
    low_or_high k i n one = grind arith

-- ---- the bytes that the edits write
-- bytes moved from one place to another
pub moved_is : (bytes : List ℕ) (from end to : ℕ) → copy_within bytes from end to ≡ take to bytes ++ (take (end - from) (drop from bytes) ++ drop (to + (end - from)) bytes)
moved_is bytes from end to = append_assoc (take to bytes) (take (end - from) (drop from bytes)) (drop (to + (end - from)) bytes)

-- and an entry written before them
pub written_is : (bytes : List ℕ) (at to : ℕ) (e : Entry) (rest : List ℕ) → at + entry_size e ≡ to → to ≤ length bytes → with_entry (take to bytes ++ rest) at e ≡ take at bytes ++ (entry_bytes e ++ rest)
written_is bytes at to e rest sum long =
    let n = length-take-le to bytes long in
    let prefix : take at (take to bytes ++ rest) ≡ take at bytes = take-append-le at (take to bytes) rest (omega arith) ∙ take-take at to bytes (omega arith) in
    let back : drop (at + entry_size e) (take to bytes ++ rest) ≡ rest = drop_at (take to bytes) rest (at + entry_size e) (omega arith) in
    λ x. prefix x ++ (entry_bytes e ++ back x)
