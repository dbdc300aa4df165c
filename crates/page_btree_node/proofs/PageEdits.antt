-- What the edits of a page leave.
use Rattle.std.specs.{FinMap.{find, put}, List.{All, copy_within}, Prelude.{insert, remove, Bool, true, false, cond, Option, Some, None, is_some, Result, Ok, Err, OnErr}}
use Rattle.std.proofs.Common.{◌≡◌, ℕ, ◌+◌, ◌-◌, ◌/◌, ◌%◌, ◌<◌, ◌≤◌, List, [], ◌∷◌, ◌++◌, length, take, drop, get_or, set, refl, sym, ap, subst, ◌∙◌, arith, suc, add-one, length-append, append_assoc, take-append-drop}
use Rattle.std.proofs.{Math.Seq.take-add, lemmas.List.{length-take-le, length-drop, append-nil, drop-drop, set_split, take-take, take-set, take-append-le, get_or-set_other}}
use Rattle.{std.proofs.lemmas.List.{Edits.get_or-insert_below, Elements.All-nil}, page_btree_node.specs.{Bytes.with_entry, Places.{IsFound, IsGap}, Searching.IsBelow}}
use Rattle.page_btree_node.specs.{Spots.{IsSpot, IsSpotFrom, Becomes, IsRowPut, PutsRow, InsertsEntry, ReplacesEntry}, claim.Node.{Node, IsNode, Fits, count_in}}
use Rattle.page_btree_node.specs.{claim.{Entries.{Entry, IsEntry, entry_bytes, entry_size, body_of, size_of}, Places.{key_cmp, Rises}}, declared.edit.RowPut.RowPut}
use Rattle.page_btree_node.{specs.declared.{search.RowNear.RowNear, spot.Spot.Spot}, proofs.{Editing.single, EntryLists.size-parts, Nearing.first_below}}
use Rattle.page_btree_node.proofs.Laws.{found_put, found_find, gap_put, gap_find}
use Rattle.page_btree_node.proofs.Standing.{edited, edited_bytes, size-edited, length-edited, All-edited, size-take_from, moved_is}

-- ---- the head of a page that says another count
abbrev pub headed : List ℕ → ℕ → List ℕ
headed page count = set (set page 2 (count / 256)) 3 (count % 256)

record SaysCount (page : List ℕ) (count : ℕ) : Type 0 where
  after : drop 4 (headed page count) ≡ drop 4 page
  level : get_or (headed page count) 0 0 ≡ get_or page 0 0
  count_is : count_in (headed page count) ≡ count

says_count : (page : List ℕ) (count : ℕ) → 4 ≤ length page → SaysCount page count
says_count (a ∷ b ∷ c ∷ d ∷ page) count long = record { after = refl; level = refl; count_is = omega arith }
says_count _ count long = absurd (omega arith)

-- ---- the head of a page whose prefix stays
record KeepsHead (page made : List ℕ) : Type 0 where
  level : get_or made 0 0 ≡ get_or page 0 0
  count : count_in made ≡ count_in page
  long : 4 ≤ length made

keeps_head : (page rest : List ℕ) (n : ℕ) → 4 ≤ length page → KeepsHead page (take (4 + n) page ++ rest)
keeps_head (a ∷ b ∷ c ∷ d ∷ page) rest n long =
    subst (λ l. KeepsHead (a ∷ b ∷ c ∷ d ∷ page) (l ++ rest)) (sym (take-add 4 n (a ∷ b ∷ c ∷ d ∷ page))) (record { level = refl; count = refl; long = omega arith })
keeps_head _ rest n long = absurd (omega arith)

-- ---- entries from i up to j give way to others
module _ (page : List ℕ) (node : Node) (is : IsNode page node) (long : length page ≡ 4096) (i j at end used : ℕ) (ordered : i ≤ j) (within : j ≤ length node.entries) (at_is : at ≡ 4 + size_of (take i node.entries)) (end_is : end ≡ 4 + size_of (take j node.entries)) (used_is : used ≡ 4 + size_of node.entries) where
  pub edited_size : (mid : List Entry) → size_of (edited node.entries i j mid) + end ≡ size_of node.entries + size_of mid + at
  edited_size mid = omega (arith, size-edited node.entries i j mid, size-parts j node.entries)

  module _ (mid : List Entry) (entries : All IsEntry mid) (children : 0 < node.level → All (λ e. length e.1 ≡ 4) mid) (room : at + size_of mid + (used - end) ≤ 4096) (added tail made : List ℕ) (is_added : added ≡ body_of mid) (is_made : made ≡ take at page ++ (added ++ (take (used - end) (drop end page) ++ tail))) where
    made_there : made ≡ take (4 + size_of (take i node.entries)) page ++ (added ++ (take (size_of (drop j node.entries)) (drop (4 + size_of (take j node.entries)) page) ++ tail))
    made_there =
        let parts = size-parts j node.entries in
        let rest : used - end ≡ size_of (drop j node.entries) = omega arith in
        is_made ∙ (λ x. take (at_is x) page ++ (added ++ (take (rest x) (drop (end_is x) page) ++ tail)))

    head_stays : KeepsHead page made
    head_stays = subst (KeepsHead page) (sym made_there) (keeps_head page _ (size_of (take i node.entries)) (omega arith))

    -- the bytes, where the head says what it should
    edited_node : (new : List ℕ) → drop 4 new ≡ drop 4 made → get_or new 0 0 ≡ get_or made 0 0 → count_in new ≡ length (edited node.entries i j mid) → IsNode new (record node { entries = edited node.entries i j mid })
    edited_node new after level count = record {
      level = level ∙ head_stays.level ∙ is.level;
      count = count;
      body = ap (take (size_of (edited node.entries i j mid))) after ∙ edited_bytes node.entries page made i j mid added tail is.body (omega arith) is_added made_there;
      shape = record {
        level = is.shape.level;
        entries = All-edited IsEntry node.entries i j mid is.shape.entries entries;
        children = λ inner. All-edited (λ e. length e.1 ≡ 4) node.entries i j mid (is.shape.children inner) (children inner);
      };
      fits = let size = edited_size mid in let parts = size-parts j node.entries in omega arith;
    }

    -- with a new count
    pub edited_counted : (count : ℕ) → count ≡ length (edited node.entries i j mid) → IsNode (headed made count) (record node { entries = edited node.entries i j mid })
    edited_counted count is_count = let head = says_count made count head_stays.long in edited_node (headed made count) head.after head.level (head.count_is ∙ is_count)

    -- with as many entries as before
    pub edited_alike : length (edited node.entries i j mid) ≡ length node.entries → IsNode made (record node { entries = edited node.entries i j mid })
    edited_alike same = edited_node made refl refl (head_stays.count ∙ is.count ∙ sym same)

-- ---- the three edits, as the page's calls make them
module _ (page : List ℕ) (node : Node) (is : IsNode page node) (long : length page ≡ 4096) (i at used : ℕ) (at_is : at ≡ 4 + size_of (take i node.entries)) (used_is : used ≡ 4 + size_of node.entries) where
  pub inserted_size : (e : Entry) → size_of (insert node.entries i e) ≡ size_of node.entries + entry_size e
  inserted_size e = let size = size-edited node.entries i i (e ∷ []) in let parts = size-parts i node.entries in omega arith

  pub inserted_node : (e : Entry) (made : List ℕ) (count : ℕ) → i ≤ length node.entries → IsEntry e → (0 < node.level → length e.1 ≡ 4) → used + entry_size e ≤ 4096
      → made ≡ take at page ++ (entry_bytes e ++ (take (used - at) (drop at page) ++ drop (at + entry_size e + (used - at)) page))
      → count ≡ length node.entries + 1
      → IsNode (headed made count) (record node { entries = insert node.entries i e })
  inserted_node e made count within entry child room is_made is_count =
      let n = length-edited node.entries i i (e ∷ []) within in
      let parts = size-parts i node.entries in
      edited_counted page node is long i i at at used (omega arith) within at_is at_is used_is (e ∷ []) (single IsEntry e entry) (λ inner. single (λ (f : Entry). length f.1 ≡ 4) e (child inner)) (omega arith)
      (entry_bytes e) _ made (sym (append-nil (entry_bytes e))) is_made count (omega arith)

  module _ (end : ℕ) (end_is : end ≡ 4 + size_of (take (i + 1) node.entries)) (within : i < length node.entries) where
    -- the entry alone gives way
    set_is : (e : Entry) → edited node.entries i (i + 1) (e ∷ []) ≡ set node.entries i e
    set_is e = (λ x. edited node.entries i (add-one i x) (e ∷ [])) ∙ sym (set_split node.entries i e within)

    pub replaced_size : (e : Entry) → size_of (set node.entries i e) + (end - at) ≡ size_of node.entries + entry_size e
    replaced_size e =
        let same = ap size_of (set_is e) in
        omega (arith, edited_size page node is long i (i + 1) at end used (omega arith) (omega arith) at_is end_is used_is (e ∷ []), size-take_from node.entries i (i + 1) (omega arith))

    pub replaced_node : (e : Entry) (made : List ℕ) → IsEntry e → (0 < node.level → length e.1 ≡ 4) → at + entry_size e + (used - end) ≤ 4096
        → made ≡ take at page ++ (entry_bytes e ++ (take (used - end) (drop end page) ++ drop (at + entry_size e + (used - end)) page))
        → IsNode made (record node { entries = set node.entries i e })
    replaced_node e made entry child room is_made =
        let n = length-edited node.entries i (i + 1) (e ∷ []) (omega arith) in
        subst (λ l. IsNode made (record node { entries = l })) (set_is e)
        (edited_alike page node is long i (i + 1) at end used (omega arith) (omega arith) at_is end_is used_is (e ∷ []) (single IsEntry e entry) (λ inner. single (λ (f : Entry). length f.1 ≡ 4) e (child inner)) (omega arith)
        (entry_bytes e) _ made (sym (append-nil (entry_bytes e))) is_made (omega arith))

    -- one of the same size lies where the old one did
    pub replaced_here : (e : Entry) (made : List ℕ) → IsEntry e → (0 < node.level → length e.1 ≡ 4) → at + entry_size e ≡ end → made ≡ with_entry page at e → IsNode made (record node { entries = set node.entries i e })
    replaced_here e made entry child same is_made =
        let parts = size-parts (i + 1) node.entries in
        let more = used - end in
        let rest : drop (at + entry_size e) page ≡ take more (drop end page) ++ drop (at + entry_size e + more) page =
        ap (λ k. drop k page) same ∙ sym (take-append-drop more (drop end page)) ∙ ap (λ l. take more (drop end page) ++ l) (drop-drop more end page ∙ ap (λ k. drop (k + more) page) (sym same)) in
        replaced_node e made entry child (omega arith) (is_made ∙ ap (λ l. take at page ++ (entry_bytes e ++ l)) rest)

    -- the bytes after it are moved, also more of them than its entries have
    pub removed_node : (till : ℕ) (made : List ℕ) (count : ℕ) → used ≤ till → made ≡ copy_within page end till at → count + 1 ≡ length node.entries
        → IsNode (headed made count) (record node { entries = remove node.entries i }) × (count ≡ length (remove node.entries i))
    removed_node till made count far is_made is_count =
        let n = length-edited node.entries i (i + 1) [] (omega arith) in
        let less = size-take_from node.entries i (i + 1) (omega arith) in
        let parts = size-parts (i + 1) node.entries in
        let fits = is.fits in
        let others_moved : List ℕ = drop (used - end) (take (till - end) (drop end page)) in
        let after : List ℕ = drop (at + (till - end)) page in
        let moved : take (till - end) (drop end page) ≡ take (used - end) (drop end page) ++ others_moved =
        sym (take-append-drop (used - end) (take (till - end) (drop end page))) ∙ ap (λ l. l ++ others_moved) (take-take (used - end) (till - end) (drop end page) (omega arith)) in
        subst (λ j. IsNode (headed made count) (record node { entries = edited node.entries i j [] }) × (count ≡ length (edited node.entries i j []))) (add-one i) (
          edited_counted page node is long i (i + 1) at end used (omega arith) (omega arith) at_is end_is used_is [] (All-nil IsEntry) (λ inner. All-nil (λ (f : Entry). length f.1 ≡ 4)) (omega arith)
              [] (others_moved ++ after) made refl
              (is_made ∙ moved_is page end till at ∙ (λ x. take at page ++ (moved x ++ after)) ∙ ap (λ l. take at page ++ l) (append_assoc (take (used - end) (drop end page)) others_moved after))
              count (omega arith),
          omega arith,
        )

-- ---- what a row's call tells
pub refused : {T E : Type 0} (r : Result T E) (A : Type 0) → A → OnErr r A
refused (Ok x) A h = tt
refused (Err e) A h = h

pub none_told : (fits : Bool) (put : RowPut) (did : Option RowPut) → did ≡ cond fits (Some put) None → did ≡ None → fits ≡ false
none_told true put did is none = cc
none_told false put did is none = refl

-- the spot of a key, where it is known whether it was found
pub spot_of : (page key : List ℕ) (es : List Entry) (b : Bool) (from : RowNear) (s : Spot) → IsSpotFrom page key from s → s.found ≡ b → IsNode page (record { level = 0; entries = es }) → Rises es → IsBelow key es from.k from.at
    → IsSpot key es b s.index s.at s.end
spot_of page key es b from s told is_found is rises begun = subst (λ found. IsSpot key es found s.index s.at s.end) is_found (told.spot _ is rises begun)

-- why the page stands for no leaf whose keys rise, told of one in which the key has this spot
pub none_put : (page key : List ℕ) (b : Bool) (from : RowNear) (s : Spot) → IsSpotFrom page key from s → s.found ≡ b → ((es : List Entry) → IsNode page (record { level = 0; entries = es }) → IsSpot key es b s.index s.at s.end → ⊥)
    → (es : List Entry) → IsNode page (record { level = 0; entries = es }) → Rises es → IsBelow key es from.k from.at → ⊥
none_put page key b from s told is_found why es is rises begun = why es is (spot_of page key es b from s told is_found is rises begun)

-- the same of a row that was found from the first entry on, where the page stands for no node with entries
pub none_taken : (page key : List ℕ) (s : Spot) → IsSpotFrom page key (record { k = 0; at = 4 }) s → s.found ≡ true → ((node : Node) → IsNode page node → 0 < length node.entries → ⊥)
    → (es : List Entry) → IsNode page (record { level = 0; entries = es }) → Rises es → ⊥
none_taken page key s told is_found none es is rises = none _ is (let here = (spot_of page key es true _ s told is_found is rises (first_below key es)).0.within in omega arith)

-- each key before a row that was put is below its own
prefix_insert : (es : List Entry) (i : ℕ) (e : Entry) → i ≤ length es → take i (insert es i e) ≡ take i es
prefix_insert es i e within = take-append-le i (take i es) (e ∷ drop i es) (omega (arith, length-take-le i es within)) ∙ take-take i i es (omega arith)

module _ (old new key value : List ℕ) (from : RowNear) (s : Spot) (fits : Bool) (did : Option RowPut) (told : IsSpotFrom old key from s) where
  abbrev row_at : Bool → RowPut
  row_at had = record { had = had; near = record { k = s.index; at = s.at } }

  put_told : (es made : List Entry) (had b : Bool) → made ≡ put key_cmp key value es → had ≡ is_some (find key_cmp key es) → IsBelow key made s.index s.at → Becomes old new (record { level = 0; entries = made }) b
      → IsRowPut old new key value es (cond b (Some (row_at had)) None)
  put_told es made had true same there below becomes = (subst (λ l. IsNode new (record { level = 0; entries = l })) same becomes, there, subst (λ l. IsBelow key l s.index s.at) same below)
  put_told es made had false same there below becomes = (becomes.0, subst (λ l. Fits (record { level = 0; entries = l }) → ⊥) same becomes.1)

  pub puts_found : s.found ≡ true → ReplacesEntry old new s.index s.at s.end (key, value) fits → did ≡ cond fits (Some (row_at true)) None → PutsRow old new key value from (Ok did)
  puts_found is_found becomes is = record {
    put = λ es is_leaf rises begun.
        let spot = spot_of old key es true from s told is_found is_leaf rises begun in
        let here : IsFound key es s.index = spot.0 in
        subst (IsRowPut old new key value es) (sym is)
        (put_told es (set es s.index (key, value)) true fits (ap (λ k. set es s.index (k, value)) (sym here.here) ∙ sym (found_put key value es s.index here)) (sym (ap is_some (found_find key es s.index here)))
        (spot.1 ∙ ap (λ l. 4 + size_of l) (sym (take-set es s.index (key, value))), λ _ j less. ap (λ (e : Entry). key_cmp e.0 key) (get_or-set_other es s.index j (key, value) ([], []) (λ same. absurd (omega arith))) ∙ here.below j less)
        (becomes.replaced _ is_leaf (λ inner. absurd (omega arith)) here.within spot.1 spot.2));
    kept = λ none. becomes.kept (none_told fits (row_at true) did is none);
    err = tt;
  }

  pub puts_gap : s.found ≡ false → InsertsEntry old new s.index s.at (key, value) fits → did ≡ cond fits (Some (row_at false)) None → PutsRow old new key value from (Ok did)
  puts_gap is_found becomes is = record {
    put = λ es is_leaf rises begun.
        let spot = spot_of old key es false from s told is_found is_leaf rises begun in
        let gap : IsGap key es s.index = spot.0 in
        subst (IsRowPut old new key value es) (sym is)
        (put_told es (insert es s.index (key, value)) false fits (sym (gap_put key value es s.index gap)) (sym (ap is_some (gap_find key es s.index gap)))
        (spot.1 ∙ ap (λ l. 4 + size_of l) (sym (prefix_insert es s.index (key, value) gap.within)), λ _ j less. ap (λ (e : Entry). key_cmp e.0 key) (get_or-insert_below es s.index (key, value) ([], []) j less gap.within) ∙ gap.below j less)
        (becomes.inserted _ is_leaf (λ inner. absurd (omega arith)) gap.within spot.1));
    kept = λ none. becomes.kept (none_told fits (row_at false) did is none);
    err = tt;
  }

-- a list of two or more has some without one
pub some_left : (es : List Entry) (i : ℕ) → i < length es → 1 < length es → 0 < length (remove es i)
some_left es i within many = omega (arith, length-append (take i es) (drop (suc i) es), length-take-le i es (omega arith), length-drop (suc i) es)
