-- The rows of one revision more, put one after the other, are what such rows are to be, and make the desk with that revision.
use Rattle.std.{specs.FinMap.{get, insert, FinMap}, proofs.lemmas.{Bool.{cases_eq, lt-ltb}, List.{get_or_default, Elements.{All-cons, All-nil, All-append}}}}
use Rattle.std.proofs.Common.{rules, true, ◌≡◌, ◌<◌, ◌≤◌, ◌+◌, ◌-◌, ◌*◌, ◌^◌, ℕ, suc, List, [], ◌∷◌, length, All, None, refl, sym, ap, subst, ◌∙◌, inl, inr, arith, get_or, Some, length-append}
use Rattle.{desk_model.specs.claim.{Desk.{Plan, name_cmp}, Geography.GeographyModel, Ranges.cut, Room.rows_for}, desk_store_rows.specs.ChunkRows.{piece_row, chunk_rows}}
use Rattle.desk_store_rows.specs.{Changes.{IsRevised, RevisionsStay, desk_with, plan_row_of}, NameRows.name_rows, Puts.rows_told, Rows.SameTag, TidyLaws.MakesRevision}
use Rattle.desk_store_rows.specs.RevisionSteps.{IsGiven, AreItsChunks, AddsRevision, IsChunkList, new_chunk_rows, new_holding, new_holder_count, told_held, rows_of_revision, AreKept, IsDrawn}
use Rattle.desk_store_rows.specs.{Steps.{chunks_more, one_revision_more}, claim.{DeskRows.{HasPlan, IsDesk, most_revisions}, Holders.IsHeld, Puts.{Row, put_rows}}}
use Rattle.desk_store_rows.specs.claim.{Keys.{RowKey, key_of, Fits, counters, holding, holder_count, named, part, chunk, in_eight}, Rows.{KeyMap, row_in, Has}}
use Rattle.desk_store_rows.specs.claim.{RevisionRows.{HasChunk, NamesChunks, HasRevision}, Tidy.{IsPiece, IsNamedBy, Tidy, IsNumbered}, Values.{plan_bytes, counters_bytes}}
use Rattle.desk_store_rows.{specs.declared.value.{Counters.Counters, StoredPlan.StoredPlan}, proofs.{Changes.plan_revised, ChunkRows.{few_rows, pieces_are, new_there}}}
use Rattle.desk_store_rows.proofs.{Counting.{OthersHold, no_holders, holders_joined}, Frames.{put_is_there, put_keeps, other_tag, chunk_stays}, NameRows.{parts_put, numbers_named}}
use Rattle.desk_store_rows.proofs.{HolderCounts.counted_by_holders_moved, OneGeography.{value_is, no_value, one_naming}, Puts.{put_rows-append, told_are, told_keep}}
use Rattle.desk_store_rows.proofs.{PutAll.{IsRowOf, is_row, names_are, told_all, keeps_key, keeps_row, keeps_rows, tells_value}, RowLaws.keys_differ, TidyFree.numbers_free}
use Rattle.desk_store_rows.proofs.{TidyParts.name_fits, TidyRevisions.{given_or_not, revised_tidy}}

-- ---- how many of the new chunks are told as held
-- the rows that are put
abbrev IsPut : Counters → ℕ → ℕ → List ℕ → StoredPlan → RowKey → Type 0
IsPut next given many name p counters = Unit {0}
IsPut next given many name p (holding plan number) = (plan ≡ p.number) × IsGiven next many number
IsPut next given many name p (holder_count number) = IsGiven next many number
IsPut next given many name p (named other) = other ≡ name
IsPut next given many name p (part plan revision index) = (plan ≡ p.number) × (revision ≡ p.revisions + 1)
IsPut next given many name p (chunk number piece) = IsGiven next given number
IsPut next given many name p _ = ⊥

-- ---- which rows these are
chunks_are : (Q : RowKey → Type 0) (next : Counters) (given : ℕ) → ((number piece : ℕ) → IsGiven next given number → Q (chunk number piece)) → next.chunk + given < 2 ^ 64
    → (first : ℕ) (lists : List (List ℕ)) → next.chunk ≤ first → first + length lists ≤ next.chunk + given → All IsChunkList lists → All (IsRowOf Q) (new_chunk_rows first lists)
chunks_are Q next given told room first [] from within sound = All-nil (IsRowOf Q)
chunks_are Q next given told room first (districts ∷ lists) from within sound =
    All-append (IsRowOf Q) (chunk_rows first districts) (new_chunk_rows (first + 1) lists)
    (told_all (IsRowOf Q) (piece_row first districts) (rows_for 512 (length districts)) (λ k less. search (arith, is_row Q (chunk first k), few_rows (length districts) k, sound 0 districts, told first k)))
    (chunks_are Q next given told room (first + 1) lists (omega arith) (omega arith) (λ k d less. sound (suc k) d (omega arith)))

-- keys of rows that one number tells apart
one_key : (row : ℕ → RowKey) (first count : ℕ) → ((x y : ℕ) → row x ≡ row y → x ≡ y) → ((k : ℕ) → k < count → Fits (row (first + k))) → (i j : ℕ) → i < count → j < count → key_of (row (first + i)) ≡ key_of (row (first + j)) → i ≡ j
one_key row first count apart fits i j one other same = let equal = apart (first + i) (first + j) (keys_differ (row (first + i)) (row (first + j)) (fits i one) (fits j other) same) in omega arith

module _ (m : KeyMap) (tidy : Tidy m) (name : List ℕ) (p : StoredPlan) (lists : List (List ℕ)) (numbers : List ℕ) (number_fits : p.number < 2 ^ 64) (few_revisions : p.revisions + 1 < 2 ^ 32) (fits_named : Fits (named name)) (room : tidy.next.chunk + length lists < 2 ^ 64) (has : Has m (named name) (plan_bytes p)) (few : length numbers ≤ 128 * 2 ^ 8) (sound : All IsChunkList lists) (its : AreItsChunks m tidy.next (length lists) p.number numbers) where
  abbrev many : ℕ
  many = told_held tidy.new (length lists)

  few_many : many ≤ length lists
  few_many = search (arith)

  abbrev Q : RowKey → Type 0
  Q = IsPut tidy.next (length lists) many name p

  abbrev plan_row : Row
  plan_row = (key_of (named name), plan_bytes (one_revision_more p))

  abbrev counters_row : Row
  counters_row = (key_of counters, counters_bytes (chunks_more tidy.next (length lists)))

  abbrev after : KeyMap
  after = put_rows m (rows_of_revision tidy.new tidy.next name p lists numbers)

  abbrev with_chunks : KeyMap
  with_chunks = put_rows m (new_chunk_rows tidy.next.chunk lists)

  abbrev with_holdings : KeyMap
  with_holdings = put_rows with_chunks (rows_told (new_holding p.number tidy.next.chunk) many)

  abbrev with_counts : KeyMap
  with_counts = put_rows with_holdings (rows_told (new_holder_count tidy.next.chunk) many)

  abbrev with_parts : KeyMap
  with_parts = put_rows with_counts (name_rows p.number (p.revisions + 1) numbers)

  in_steps : after ≡ insert (insert with_parts plan_row.0 plan_row.1) counters_row.0 counters_row.1
  in_steps = search put_rows-append

  new_are : All (IsRowOf Q) (new_chunk_rows tidy.next.chunk lists)
  new_are = chunks_are Q tidy.next (length lists) (λ number piece is. is) room tidy.next.chunk lists (omega arith) (omega arith) sound

  holding_fits : (k : ℕ) → k < many → Fits (holding p.number (tidy.next.chunk + k))
  holding_fits k less = (let few = few_many in (number_fits, omega arith))

  holdings_are : All (IsRowOf Q) (rows_told (new_holding p.number tidy.next.chunk) many)
  holdings_are = told_all (IsRowOf Q) (new_holding p.number tidy.next.chunk) many (λ k less. is_row Q (holding p.number (tidy.next.chunk + k)) _ (holding_fits k less) (refl, (omega arith, omega arith)))

  counts_are : All (IsRowOf Q) (rows_told (new_holder_count tidy.next.chunk) many)
  counts_are = told_all (IsRowOf Q) (new_holder_count tidy.next.chunk) many (λ k less. is_row Q (holder_count (tidy.next.chunk + k)) _ (holding_fits k less).1 (omega arith, omega arith))

  ends_are : All (IsRowOf Q) (plan_row ∷ counters_row ∷ [])
  ends_are = All-cons (IsRowOf Q) plan_row (counters_row ∷ []) (is_row Q (named name) _ fits_named refl) (All-cons (IsRowOf Q) counters_row [] (is_row Q counters _ tt tt) (All-nil (IsRowOf Q)))

  all_are : All (IsRowOf Q) (rows_of_revision tidy.new tidy.next name p lists numbers)
  all_are = search (All-append, IsRowOf, new_are, holdings_are, counts_are, names_are Q p.number (p.revisions + 1) numbers number_fits few_revisions few (λ k. (refl, refl)), ends_are)

  -- keys of other tags, and of other plans, are none of them
  tag_stays : (tag : ℕ) → (tag ≡ 65 → ⊥) → (tag ≡ 80 → ⊥) → (tag ≡ 82 → ⊥) → (tag ≡ 107 → ⊥) → (tag ≡ 72 → ⊥) → (tag ≡ 75 → ⊥) → SameTag tag m after
  tag_stays tag a b c d e f rest = keeps_key Q m (rows_of_revision tidy.new tidy.next name p lists numbers) (tag ∷ rest) all_are (λ k fits holds same. search (arith, other_tag))

  -- the parts are those of the list of numbers
  in_parts : (index : ℕ) → row_in after (part p.number (p.revisions + 1) index) ≡ row_in with_parts (part p.number (p.revisions + 1) index)
  in_parts index = search (rules, in_steps, put_keeps, other_tag)

  no_part : (index : ℕ) → index < 2 ^ 8 → row_in with_counts (part p.number (p.revisions + 1) index) ≡ None
  no_part index less =
      let fits : Fits (part p.number (p.revisions + 1) index) = (number_fits, few_revisions, less) in
      let before : row_in with_counts (part p.number (p.revisions + 1) index) ≡ row_in with_chunks (part p.number (p.revisions + 1) index) = search (rules, told_keep, other_tag) in
      before
      ∙ keeps_row (λ row. row ≡ part p.number (p.revisions + 1) index → ⊥) m (new_chunk_rows tidy.next.chunk lists) (part p.number (p.revisions + 1) index)
      (chunks_are (λ row. row ≡ part p.number (p.revisions + 1) index → ⊥) tidy.next (length lists) (λ number piece is same. cc) room tidy.next.chunk lists (omega arith) (omega arith) sound) fits (λ apart. apart refl)
      ∙ (numbers_free m tidy).revisions name p number_fits (omega arith) has (p.revisions + 1) index (omega arith) fits

  -- the rows of chunks are those of the new ones
  pub chunks_put : SameTag 107 (put_rows m (new_chunk_rows tidy.next.chunk lists)) (put_rows m (rows_of_revision tidy.new tidy.next name p lists numbers))
  chunks_put rest = search (rules, in_steps, put_keeps, other_tag, told_keep)

  -- the plan holds its new chunks, and each is counted
  held_last : (tag : ℕ) (rest : List ℕ) → (tag ≡ 65 → ⊥) → (tag ≡ 80 → ⊥) → (tag ≡ 82 → ⊥) → get after (tag ∷ rest) ≡ get with_counts (tag ∷ rest)
  held_last tag rest a b c = search (in_steps, put_keeps, other_tag, told_keep)

  holding_there : (k : ℕ) → k < many → IsHeld after p.number (tidy.next.chunk + k)
  holding_there k less = held_last 72 _ (λ e. absurd (omega arith)) (λ e. absurd (omega arith)) (λ e. absurd (omega arith))
      ∙ told_keep with_holdings (new_holder_count tidy.next.chunk) many (key_of (holding p.number (tidy.next.chunk + k))) (λ i within. other_tag 72 75 _ _ (λ e. absurd (omega arith)))
      ∙ told_are with_chunks (new_holding p.number tidy.next.chunk) many k (one_key (holding p.number) tidy.next.chunk many (λ x y e. cc) holding_fits) less

  holder_count_there : (k : ℕ) → k < many → Has after (holder_count (tidy.next.chunk + k)) (in_eight 1)
  holder_count_there k less = held_last 75 _ (λ e. absurd (omega arith)) (λ e. absurd (omega arith)) (λ e. absurd (omega arith)) ∙ told_are with_holdings (new_holder_count tidy.next.chunk) many k (one_key holder_count tidy.next.chunk many (λ x y e. cc) (λ i within. (holding_fits i within).1)) less

  at_given : (P : ℕ → Type 0) → ((k : ℕ) → k < many → P (tidy.next.chunk + k)) → (number : ℕ) → IsGiven tidy.next many number → P number
  at_given P each number given = (let same : tidy.next.chunk + (number - tidy.next.chunk) ≡ number = omega arith in subst P same (each (number - tidy.next.chunk) (omega arith)))

  held_new : (number : ℕ) → IsGiven tidy.next many number → IsHeld after p.number number
  held_new = at_given (IsHeld after p.number) holding_there

  -- what the plan named already it holds already
  held_still : tidy.new ≡ true → (number : ℕ) → IsNamedBy m p.number number → IsHeld after p.number number
  held_still is_new number own =
      let less = tidy.below.named_chunks p.number number own in
      keeps_row Q m (rows_of_revision tidy.new tidy.next name p lists numbers) (holding p.number number) all_are (number_fits, omega arith) (λ both. let from = both.1.0 in absurd (omega arith))
      ∙ tidy.holdings.hold is_new name p.number number (record { plan = p; row = has; is = refl; fits = number_fits }) own

  other_holding : (plan number : ℕ) → Fits (holding plan number) → ((plan ≡ p.number) × IsGiven tidy.next many number → ⊥) → row_in after (holding plan number) ≡ row_in m (holding plan number)
  other_holding plan number fits apart = keeps_row Q m (rows_of_revision tidy.new tidy.next name p lists numbers) (holding plan number) all_are fits apart

  none_before : (plan number : ℕ) → Fits (holding plan number) → IsGiven tidy.next many number → IsHeld m plan number → ⊥
  none_before plan number fits is held = no_value [] (sym held ∙ (numbers_free m tidy).holdings plan number is.0 fits)

  -- a holding tells nothing else
  -- rows as a revision puts them are rows that add it
  pub revision_put : AddsRevision m (put_rows m (rows_of_revision tidy.new tidy.next name p lists numbers)) tidy.new tidy.next (length lists) name p numbers
  revision_put = record {
    rows = keeps_rows Q m (rows_of_revision tidy.new tidy.next name p lists numbers) all_are tidy.rows;
    moved = ap (λ n. row_in n counters) in_steps ∙ put_is_there (insert with_parts plan_row.0 plan_row.1) counters_row.0 counters_row.1;
    row = search (arith, in_steps, put_keeps, other_tag, put_is_there);
    others = λ other apart. keeps_key Q m _ (key_of (named other)) all_are (λ k fits holds same. search (arith, apart, other_tag));
    marks = tag_stays 68 (λ e. absurd (omega arith)) (λ e. absurd (omega arith)) (λ e. absurd (omega arith)) (λ e. absurd (omega arith)) (λ e. absurd (omega arith)) (λ e. absurd (omega arith));
    starts = tag_stays 76 (λ e. absurd (omega arith)) (λ e. absurd (omega arith)) (λ e. absurd (omega arith)) (λ e. absurd (omega arith)) (λ e. absurd (omega arith)) (λ e. absurd (omega arith));
    seals = tag_stays 83 (λ e. absurd (omega arith)) (λ e. absurd (omega arith)) (λ e. absurd (omega arith)) (λ e. absurd (omega arith)) (λ e. absurd (omega arith)) (λ e. absurd (omega arith));
    loads = tag_stays 103 (λ e. absurd (omega arith)) (λ e. absurd (omega arith)) (λ e. absurd (omega arith)) (λ e. absurd (omega arith)) (λ e. absurd (omega arith)) (λ e. absurd (omega arith));
    parts = λ index less. in_parts index ∙ parts_put with_counts p.number (p.revisions + 1) numbers number_fits few_revisions few no_part index less;
    other_parts = λ plan revision index fits apart. keeps_row Q m (rows_of_revision tidy.new tidy.next name p lists numbers) (part plan revision index) all_are fits apart;
    -- (what the rows of chunks hold is pieces of chunks)
    pieces = λ number piece value fits given there. elim (tells_value (λ row. IsPiece row.1) m (new_chunk_rows tidy.next.chunk lists) (key_of (chunk number piece)) value (pieces_are tidy.next.chunk lists sound) (sym (chunks_put _) ∙ there)) [
      | inl put ↦ subst (λ (v : List ℕ). IsPiece v) put.2 put.1
      | inr before ↦ absurd (no_value value (sym before ∙ (numbers_free m tidy).chunks number given.0 fits.0 piece fits.1))
    ];
    other_chunks = λ number piece fits apart. keeps_row Q m (rows_of_revision tidy.new tidy.next name p lists numbers) (chunk number piece) all_are fits apart;
    told = tag_stays 86 (λ e. absurd (omega arith)) (λ e. absurd (omega arith)) (λ e. absurd (omega arith)) (λ e. absurd (omega arith)) (λ e. absurd (omega arith)) (λ e. absurd (omega arith)) [];
    empty = λ plan number value fits there. elim (cases_eq plan p.number) [
      | inl same ↦ elim (given_or_not tidy.next many number) [
        | inl is ↦ value_is value [] (sym there ∙ ap (λ (k : ℕ). row_in after (holding k number)) same ∙ held_new number is)
        | inr other ↦ (tidy.holdings.held plan number value fits (sym (other_holding plan number fits (λ both. other both.1)) ∙ there)).0
      ]
      | inr apart ↦ (tidy.holdings.held plan number value fits (sym (other_holding plan number fits (λ both. apart both.0)) ∙ there)).0
    ];
    holdings = λ is_new number among. search (arith, its.own, held_still, held_new, tidy.next, tidy.new);
    other_holdings = λ plan number fits apart. keeps_row Q m (rows_of_revision tidy.new tidy.next name p lists numbers) (holding plan number) all_are fits (λ both. let most = few_many in apart (both.0, its.whole number (both.1.0, (let below = both.1.1 in omega arith))));
    counted_by_holders = λ number fits. elim (given_or_not tidy.next many number) [
      | inl is ↦ (let others : OthersHold m after p.number number = λ other other_fits apart. other_holding other number (other_fits, fits) (λ both. apart both.0) in record {
        count = 1;
        fits = omega arith;
        row = at_given (λ x. Has after (holder_count x) (in_eight 1)) holder_count_there number is;
        holders = holders_joined m after p.number number 0 number_fits others (none_before p.number number (number_fits, fits) is) (held_new number is)
            (no_holders m number (λ plan small held. none_before plan number (small, fits) is held));
      })
      | inr other ↦ counted_by_holders_moved m after number (λ plan small. other_holding plan number (small, fits) (λ both. other both.1))
          (keeps_row Q m (rows_of_revision tidy.new tidy.next name p lists numbers) (holder_count number) all_are fits other) (tidy.holdings.counted_by_holders number fits)
    ];
  }

-- ---- the numbers that are drawn are the plan's own, or given
pub its_chunks : (m : KeyMap) (next : Counters) (plan : ℕ) (lists : List (List ℕ)) (numbers : List ℕ) (counties : List (List ℕ)) → IsDrawn m next plan lists numbers counties → AreItsChunks m next (length lists) plan numbers
its_chunks m next plan lists numbers counties drawn = record {
  few = drawn.few;
  own = λ number (k, within, is). search (arith, get_or_default, drawn.count, drawn.each);
  whole = λ number given.
      let place = number - next.chunk in
      let (county, inside, is) = drawn.used place (omega arith) in
      let within : county < length numbers = (let count = drawn.count in omega arith) in
      (county, within, get_or_default numbers county number 0 within ∙ is ∙ (omega arith));
}

-- ---- what is there stays
-- a chunk that is there has a number that was given before
chunk_below : (m : KeyMap) (tidy : Tidy m) (given number : ℕ) (districts : List ℕ) → HasChunk m number districts → IsGiven tidy.next given number → ⊥
chunk_below m tidy given number districts has is = search (arith, has.pieces 0 (omega arith), lt-ltb, no_value, (numbers_free m tidy).chunks number is.0 has.number_fits 0 (omega arith))

module _ (m n : KeyMap) (tidy : Tidy m) (given : ℕ) (name : List ℕ) (p : StoredPlan) (numbers : List ℕ) (adds : AddsRevision m n tidy.new tidy.next given name p numbers) where
  chunk_moves : (number : ℕ) (districts : List ℕ) → HasChunk m number districts → HasChunk n number districts
  chunk_moves number districts has = search (has.number_fits, has.some, has.few, has.each, adds.other_chunks, chunk_below, m, tidy, has.pieces)

  revision_moves : (plan revision : ℕ) (counties : List (List ℕ)) → plan < 2 ^ 64 → revision < 2 ^ 32 → ((plan ≡ p.number) × (revision ≡ p.revisions + 1) → ⊥) → HasRevision m plan revision counties → HasRevision n plan revision counties
  revision_moves plan revision counties plan_fits revision_fits apart has = search (has.numbers, adds.other_parts, has.names.parts, chunk_moves, has.chunks)

  revision_added : (source : ℕ) (lists counties : List (List ℕ)) → IsDrawn m tidy.next source lists numbers counties → tidy.next.chunk + length lists < 2 ^ 64 → ((place : ℕ) → place < length lists → HasChunk n (tidy.next.chunk + place) (get_or lists place [])) → HasRevision n p.number (p.revisions + 1) counties
  revision_added source lists counties drawn room there = record {
    numbers = numbers;
    names = record {
      few = drawn.few;
      each = λ k d within.
          let same : get_or numbers k 0 ≡ get_or numbers k d = get_or_default numbers k 0 d within in
          elim (drawn.each k ((let count = drawn.count in omega arith))) [
            | inl kept ↦ (let fits = kept.there.number_fits in omega arith)
            | inr new ↦ (let here = new.is in let less = new.within in omega arith)
          ];
      parts = adds.parts;
    };
    count = drawn.count;
    chunks = λ county within. elim (drawn.each county within) [
      | inl kept ↦ chunk_moves (get_or numbers county 0) (get_or counties county []) kept.there
      | inr new ↦ subst (λ x. HasChunk n x (get_or counties county [])) (sym new.is)
          (subst (λ (l : List ℕ). HasChunk n (tidy.next.chunk + new.place) l) new.same (there new.place new.within))
    ];
  }

-- ---- the desk
module _ (m n : KeyMap) (tidy : Tidy m) (g : GeographyModel) (plans : FinMap name_cmp Plan) (name : List ℕ) (number : ℕ) (p : Plan) (districts : List ℕ) (lists : List (List ℕ)) (numbers : List ℕ) (there : get plans name ≡ Some p) (has : HasPlan m g name number p) (few : length p.revisions < most_revisions) (room : tidy.next.chunk + length lists < 2 ^ 64) (source : ℕ) (drawn : IsDrawn m tidy.next source lists numbers (cut g districts)) (adds : AddsRevision m n tidy.new tidy.next (length lists) name (plan_row_of number p) numbers) (made : (place : ℕ) → place < length lists → HasChunk n (tidy.next.chunk + place) (get_or lists place [])) where
  abbrev row : StoredPlan
  row = plan_row_of number p

  few_more : row.revisions + 1 < 2 ^ 32
  few_more = omega arith

  stays : (other : List ℕ) (plan : ℕ) (q : Plan) → get plans other ≡ Some q → HasPlan m g other plan q → RevisionsStay m n plan (length q.revisions)
  stays other plan q found held revision counties some within was =
      -- (a revision that is there is not the new one)
      let not_new : (plan ≡ number) × (revision ≡ length p.revisions + 1) → ⊥ = λ is.
      let here : IsNumbered m name number = record { plan = row; row = has.row; is = refl; fits = has.number_fits } in
      let also : IsNumbered m other number = record { plan = plan_row_of plan q; row = held.row; is = is.0; fits = has.number_fits } in
      let same : other ≡ name = tidy.owned.one other name number also here in
      let equal : q ≡ p = cc in
      let count : length q.revisions ≡ length p.revisions = ap (λ (r : Plan). length r.revisions) equal in
      let last = is.1 in
      absurd (omega arith) in
      revision_moves m n tidy (length lists) name row numbers adds plan revision counties held.number_fits (omega arith) not_new was

  is_revised : IsRevised m n g plans name number p districts
  is_revised = search (adds.seals, adds.loads, adds.others, length-append, stays, revision_added, m, tidy, adds, drawn, room)

  pub revision_made : IsDesk m (desk_with g plans) → length districts ≡ length g.blocks → MakesRevision g plans name p districts (chunks_more tidy.next (length lists)) tidy.new n
  revision_made is long = record {
    desk = plan_revised m n g plans name number p districts is there has long few is_revised;
    tidy = revised_tidy m n tidy (length lists) source name row numbers has.number_fits few_more room has.row (its_chunks m tidy.next source lists numbers (cut g districts) drawn) adds;
  }

-- ---- its rows, as they are listed
module _ (m : KeyMap) (tidy : Tidy m) (name : List ℕ) (p : StoredPlan) (lists : List (List ℕ)) (numbers : List ℕ) (number_fits : p.number < 2 ^ 64) (few_more : p.revisions + 1 < 2 ^ 32) (room : tidy.next.chunk + length lists < 2 ^ 64) (has : Has m (named name) (plan_bytes p)) (few : length numbers ≤ 128 * 2 ^ 8) (sound : All IsChunkList lists) (its : AreItsChunks m tidy.next (length lists) p.number numbers) where
  abbrev listed : KeyMap
  listed = put_rows m (rows_of_revision tidy.new tidy.next name p lists numbers)

  fits_key : Fits (named name)
  fits_key = name_fits m name (plan_bytes p) tidy.rows has

  pub rows_add : AddsRevision m listed tidy.new tidy.next (length lists) name p numbers
  rows_add = revision_put m tidy name p lists numbers number_fits few_more fits_key room has few sound its

  pub rows_make : (place : ℕ) → place < length lists → HasChunk listed (tidy.next.chunk + place) (get_or lists place [])
  rows_make place within = search (arith, chunk_stays, chunks_put m tidy name p lists numbers number_fits few_more fits_key room has few sound its, new_there m tidy.next.chunk lists place sound room (numbers_free m tidy).chunks within)

-- ---- chunks of the revision before
pub before_kept : (m : KeyMap) (plan revision : ℕ) (numbers : List ℕ) (counties : List (List ℕ)) → plan < 2 ^ 64 → revision < 2 ^ 32 → NamesChunks m plan revision numbers → HasRevision m plan revision counties → AreKept m plan numbers counties
before_kept m plan revision numbers counties plan_fits revision_fits names has =
    let same : has.numbers ≡ numbers = one_naming m plan revision has.numbers numbers has.names names in
    let count : length numbers ≡ length counties = sym (ap length same) ∙ has.count in
    record {
      count = count;
      each = λ county within.
          let inside : county < length numbers = omega arith in
          let number = get_or numbers county 0 in
          record {
            own = numbers_named m plan revision numbers plan_fits revision_fits names number (county, inside, get_or_default numbers county number 0 inside);
            there = subst (λ (l : List ℕ). HasChunk m (get_or l county 0) (get_or counties county [])) same (has.chunks county within);
          };
    }
