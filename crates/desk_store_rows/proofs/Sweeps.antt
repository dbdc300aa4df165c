-- Rows that nothing needs can go: those of plans that were taken away, of loads that were never sealed, and of chunks that are let go.
use Rattle.{std.{specs.{FinMap.{remove, get}, Prelude.Contains}, proofs.lemmas.List.get_or_default}, desk_model.specs.claim.{Desk.{Desk, Plan}, Geography.GeographyModel}}
use Rattle.std.proofs.Common.{◌≡◌, ◌<◌, ◌^◌, ℕ, List, [], length, Option, Some, None, refl, sym, ap, ◌∙◌, arith, ◌∷◌, ◌++◌, subst, true, ◌+◌, zero, suc, ◌⊎◌, get_or, inl, inr}
use Rattle.desk_store_rows.specs.{Changes.{plan_row_of, RevisionsStay}, ChunkRows.IsFreeChunk, Holders.{with_holder_count, released}, Rows.SameTag, SweepLaws.IsSwept}
use Rattle.desk_store_rows.specs.{TurnLaws.{IsUnneededHolding, IsShared}, claim.{DeskRows.{HasPlan, IsPlanAt, IsDesk}, GeographyRows.IsGeography, Holders.IsHeld}}
use Rattle.desk_store_rows.specs.claim.Keys.{key_of, Fits, retired, named, part, chunk, in_eight, RowKey, begun, block, pair, in_four, holding, holder_count, in_one, in_two}
use Rattle.desk_store_rows.{specs.claim.{Lists.{chunks_bytes, AreChunks}, RevisionRows.HasChunk, Rows.{KeyMap, row_in, Has, Lacks}}, proofs.Changes.{plan_at_moves, cases_key}}
use Rattle.desk_store_rows.{specs.claim.Tidy.{IsNumbered, IsKnown, Tidy, IsLoad, IsNamedBy, AreRows}, proofs.{ListLaws.chunks_differ, NameRows.numbers_named, RowLaws.keys_differ}}
use Rattle.desk_store_rows.proofs.Frames.{remove_keeps_row, remove_keeps_tag, geography_stays, desk_stays, plan_at_stays, put_keeps_tag, tag_follows, remove_keeps, names_stay, chunk_stays}
use Rattle.desk_store_rows.proofs.{HolderCounts.{holders_leave, holder_counts_stay, none_holds, another_holds}, OneGeography.{no_value, value_is}}
use Rattle.desk_store_rows.proofs.TidyParts.{removed_fewer, kept_of, stays_tidy, plans_fewer, numbered_moves, chunks_stay, holders_stay, loads_stay, rows_removed, load_moves, loads_kept, loads_fewer, same_fewer, holders_kept, holders_fewer, naming_moves, rows_put, chunks_fewer, plans_stay, known_moves}
use Rattle.std.specs.FinMap as map_of

-- ---- the desk rests on plans that are there
living : (m : KeyMap) (g : GeographyModel) (name : List ℕ) (number : ℕ) (p : Plan) → HasPlan m g name number p → IsNumbered m name number
living m g name number p has = record { plan = plan_row_of number p; row = has.row; is = refl; fits = has.number_fits }

-- the number of a plan that is there is no number that was taken away
pub apart_from_gone : (m : KeyMap) (tidy : Tidy m) (name : List ℕ) (number plan : ℕ) → IsNumbered m name number → Has m (retired plan) [] → number ≡ plan → ⊥
apart_from_gone m tidy name number plan is mark same = no_value [] (sym mark ∙ ap (λ k. row_in m (retired k)) (sym same) ∙ tidy.owned.gone name number is)

plans_move : (m n : KeyMap) (geography : Option GeographyModel) (name : List ℕ) (p : Option Plan) → row_in n (named name) ≡ row_in m (named name) → ((number last : ℕ) → IsNumbered m name number → last < 2 ^ 32 → RevisionsStay m n number last) → IsPlanAt m geography name p → IsPlanAt n geography name p
plans_move m n None name p same stay is = search arith
plans_move m n (Some g) name p same stay is = plan_at_moves m n g name p same (λ number q found has. let few = has.few in stay number (length q.revisions) (living m g name number q has) (omega arith)) is

-- where the rows of plans and of the geography are the same, and each revision of a plan that is there stays, so does the desk
pub desk_moves : (m n : KeyMap) (d : Desk) → SameTag 80 m n → SameTag 83 m n → SameTag 103 m n → ((name : List ℕ) (number last : ℕ) → IsNumbered m name number → last < 2 ^ 32 → RevisionsStay m n number last) → IsDesk m d → IsDesk n d
desk_moves m n d names seals loads stay is = search (geography_stays, m, n, seals, loads, is.geography, plans_move, names, stay, is.plans)

-- ---- a piece of a chunk
pub other_piece : (number other i j : ℕ) → (other ≡ number → ⊥) → chunk other i ≡ chunk number j → ⊥
other_piece number other i j apart same = apart (cc)

-- ---- the mark where no part is left
module _ (m : KeyMap) (tidy : Tidy m) (d : Desk) (is : IsDesk m d) (plan : ℕ) (mark : Has m (retired plan) []) (plan_fits : plan < 2 ^ 64) (none : (revision index : ℕ) → Fits (part plan revision index) → Lacks m (part plan revision index)) where
  abbrev less : KeyMap
  less = remove m (key_of (retired plan))

  unmarked_same : (tag : ℕ) → (tag ≡ 68 → ⊥) → SameTag tag m less
  unmarked_same tag apart = remove_keeps_tag m tag 68 (in_eight plan) apart

  known_still : (owner : ℕ) → owner < 2 ^ 64 → (owner ≡ plan → ⊥) → IsKnown m owner → IsKnown less owner
  known_still owner few apart given = search (arith, numbered_moves, unmarked_same, remove_keeps_row, apart)

  mark_known : (owner k i : ℕ) (value : List ℕ) → Fits (part owner k i) → Has less (part owner k i) value → IsKnown m owner → IsKnown less owner
  mark_known owner k i value few there = known_still owner few.0 (λ same. no_value value (sym (removed_fewer 82 m (key_of (retired plan)) _ value there) ∙ ap (λ o. row_in m (part o k i)) same ∙ none k i (plan_fits, few.1, few.2)))

  pub mark_swept : IsSwept d tidy.next tidy.new less
  mark_swept =
      let next = tidy.next in
      let kept = kept_of m tidy in
      let was = λ (tag : ℕ). removed_fewer tag m (key_of (retired plan)) in
      let rows = rows_removed m (key_of (retired plan)) kept.rows in
      let plans = plans_fewer m less next.plan next.plan (omega arith) (was 80) (was 68) (was 82) mark_known kept.plans in
      record {
        desk = desk_stays m less d (unmarked_same 80 (λ e. absurd (omega arith))) (unmarked_same 82 (λ e. absurd (omega arith))) (unmarked_same 83 (λ e. absurd (omega arith))) (unmarked_same 103 (λ e. absurd (omega arith))) (unmarked_same 107 (λ e. absurd (omega arith))) is;
        tidy = stays_tidy m less tidy (unmarked_same 65 (λ e. absurd (omega arith)) [])
            (search (arith, rows, plans, chunks_stay m less next.chunk next.chunk, holders_stay m less tidy.new, loads_stay m less next.load next.load, unmarked_same, kept));
      }

-- ---- Rows of loads that were begun and never sealed can go.
module _ (m : KeyMap) (tidy : Tidy m) (d : Desk) (is : IsDesk m d) (load : ℕ) (load_fits : load < 2 ^ 64) (mark : Has m (begun load) []) where
  -- ---- a row of the load
  module _ (row : RowKey) (rest : List ℕ) (fits : Fits row) (tagged : key_of row ≡ 103 ∷ rest) (block_load : (other place : ℕ) → block other place ≡ row → other ≡ load) (pair_load : (other place : ℕ) → pair other place ≡ row → other ≡ load) where
    abbrev fewer : KeyMap
    fewer = remove m (key_of row)

    fewer_same : (tag : ℕ) → (tag ≡ 103 → ⊥) → SameTag tag m fewer
    fewer_same tag apart = subst (λ (k : List ℕ). SameTag tag m (remove m k)) (sym tagged) (remove_keeps_tag m tag 103 rest apart)

    geography_here : (g : Option GeographyModel) → IsGeography m g → IsGeography fewer g
    geography_here None there = fewer_same 83 (λ e. absurd (omega arith)) _ ∙ there
    geography_here (Some g) (other, sealed) =
        -- (the sealed load is none that was begun)
        let ended = tidy.owned.ended (record { load = other; blocks = length g.blocks; pairs = length g.pairs }) sealed.load_fits sealed.named in
        let apart : other ≡ load → ⊥ = λ same. no_value [] (sym mark ∙ ap (λ k. row_in m (begun k)) (sym same) ∙ ended) in (
          other,
          record {
            sound = sealed.sound;
            load_fits = sealed.load_fits;
            pairs_fit = sealed.pairs_fit;
            named = fewer_same 83 (λ e. absurd (omega arith)) _ ∙ sealed.named;
            rows = search (remove_keeps_row, apart, block_load, sealed.rows.blocks, pair_load, sealed.rows.pairs);
          },
        )

    row_swept : IsSwept d tidy.next tidy.new fewer
    row_swept =
        let next = tidy.next in
        let kept = kept_of m tidy in
        let seals : SameTag 83 m fewer = fewer_same 83 (λ e. absurd (omega arith)) in
        let marks : SameTag 76 m fewer = fewer_same 76 (λ e. absurd (omega arith)) in
        let loads = loads_fewer m fewer next.load next.load (omega arith) (same_fewer 76 m fewer marks) (same_fewer 83 m fewer seals) (removed_fewer 103 m (key_of row))
        (λ other place value few there. load_moves m fewer other seals marks) (λ other place value few there. load_moves m fewer other seals marks) kept.loads in
        record {
          desk = search (arith, geography_here, d.geography, is.geography, plan_at_stays, map_of.get, d.plans, fewer_same, is.plans);
          tidy = stays_tidy m fewer tidy (fewer_same 65 (λ e. absurd (omega arith)) []) (loads_kept m fewer tidy next (omega arith) (omega arith) (λ tag a b c. fewer_same tag c) (rows_removed m (key_of row) kept.rows) loads);
        }

  pub block_swept : (place : ℕ) → place < 2 ^ 32 → IsSwept d tidy.next tidy.new (remove m (key_of (block load place)))
  block_swept place small = row_swept (block load place) (in_eight load ++ (98 ∷ in_four place)) (load_fits, small) refl (λ other at same. cc) (λ other at same. cc)

  pub pair_swept : (place : ℕ) → place < 2 ^ 32 → IsSwept d tidy.next tidy.new (remove m (key_of (pair load place)))
  pair_swept place small = row_swept (pair load place) (in_eight load ++ (112 ∷ in_four place)) (load_fits, small) refl (λ other at same. cc) (λ other at same. cc)

  -- ---- the mark where no row is left
  module _ (none : (place : ℕ) → place < 2 ^ 32 → Lacks m (block load place) × Lacks m (pair load place)) where
    abbrev ended : KeyMap
    ended = remove m (key_of (begun load))

    ended_same : (tag : ℕ) → (tag ≡ 76 → ⊥) → SameTag tag m ended
    ended_same tag apart = remove_keeps_tag m tag 76 (in_eight load) apart

    still_load : (other : ℕ) → other < 2 ^ 64 → (other ≡ load → ⊥) → IsLoad m other → IsLoad ended other
    still_load other few apart given = search (arith, ended_same, remove_keeps_row, apart)

    pub load_mark_swept : IsSwept d tidy.next tidy.new ended
    load_mark_swept =
        let next = tidy.next in
        let kept = kept_of m tidy in
        let seals : SameTag 83 m ended = ended_same 83 (λ e. absurd (omega arith)) in
        let rows : SameTag 103 m ended = ended_same 103 (λ e. absurd (omega arith)) in
        let loads = loads_fewer m ended next.load next.load (omega arith) (removed_fewer 76 m (key_of (begun load))) (same_fewer 83 m ended seals) (same_fewer 103 m ended rows)
        (λ other place value few there. still_load other few.0 (λ same. no_value value (sym (sym (rows _) ∙ there) ∙ ap (λ k. row_in m (block k place)) same ∙ (none place few.1).0)))
        (λ other place value few there. still_load other few.0 (λ same. no_value value (sym (sym (rows _) ∙ there) ∙ ap (λ k. row_in m (pair k place)) same ∙ (none place few.1).1))) kept.loads in
        record {
          desk = desk_stays m ended d (ended_same 80 (λ e. absurd (omega arith))) (ended_same 82 (λ e. absurd (omega arith))) seals rows (ended_same 107 (λ e. absurd (omega arith))) is;
          tidy = stays_tidy m ended tidy (ended_same 65 (λ e. absurd (omega arith)) []) (loads_kept m ended tidy next (omega arith) (omega arith) (λ tag a b c. ended_same tag a) (rows_removed m (key_of (begun load)) kept.rows) loads);
        }

-- ---- A plan that was taken away lets a chunk go.
with_holder_count_rows : (m : KeyMap) (number count : ℕ) → number < 2 ^ 64 → AreRows m → AreRows (with_holder_count m number count)
with_holder_count_rows m number zero fits rows = rows_removed m (key_of (holder_count number)) rows
with_holder_count_rows m number (suc more) fits rows = rows_put m (holder_count number) (in_eight (more + 1)) fits rows

with_holder_count_tag : (m : KeyMap) (number count tag : ℕ) → (tag ≡ 75 → ⊥) → SameTag tag m (with_holder_count m number count)
with_holder_count_tag m number count tag apart = search (arith, remove_keeps_tag, put_keeps_tag)

module _ (m : KeyMap) (tidy : Tidy m) (is_new : tidy.new ≡ true) (d : Desk) (is : IsDesk m d) (plan number count : ℕ) (left : IsUnneededHolding m plan number count) where
  abbrev unheld : KeyMap
  unheld = remove m (key_of (holding plan number))

  abbrev after : KeyMap
  after = released m plan number count

  same : (tag : ℕ) → (tag ≡ 72 → ⊥) → (tag ≡ 75 → ⊥) → SameTag tag m after
  same tag a b = tag_follows tag m unheld after (remove_keeps_tag m tag 72 (in_eight plan ++ in_eight number) a) (with_holder_count_tag unheld number count tag b)

  holdings_after : SameTag 72 unheld after
  holdings_after = with_holder_count_tag unheld number count 72 (λ e. absurd (omega arith))

  still_held : (name : List ℕ) (owner other : ℕ) → IsNumbered m name owner → IsNamedBy m owner other → IsHeld m owner other → IsHeld after owner other
  still_held name owner other living naming held = holdings_after _
      ∙ remove_keeps_row m (holding plan number) (holding owner other) (left.plan_fits, left.fits) (living.fits, omega arith) (λ e. apart_from_gone m tidy name owner plan living left.mark (cc)) ∙ held

  pub hold_swept : IsSwept d tidy.next tidy.new after
  hold_swept =
      let parts : SameTag 82 m after = same 82 (λ e. absurd (omega arith)) (λ e. absurd (omega arith)) in
      let names : SameTag 80 m after = same 80 (λ e. absurd (omega arith)) (λ e. absurd (omega arith)) in
      let counted = holders_leave m plan number count tidy.holdings.counted_by_holders left.plan_fits left.fits left.count_fits left.held left.counted_by_holders in
      let holders = holders_fewer m after tidy.new (same 86 (λ e. absurd (omega arith)) (λ e. absurd (omega arith)) _) (same_fewer 80 m after names) (λ rest value there. removed_fewer 72 m (key_of (holding plan number)) rest value (sym (holdings_after rest) ∙ there))
      (same_fewer 82 m after parts) counted (λ owner other value few there. naming_moves m after owner other parts) still_held tidy.holdings in
      record {
        desk = desk_stays m after d names parts (same 83 (λ e. absurd (omega arith)) (λ e. absurd (omega arith))) (same 103 (λ e. absurd (omega arith)) (λ e. absurd (omega arith))) (same 107 (λ e. absurd (omega arith)) (λ e. absurd (omega arith))) is;
        tidy = stays_tidy m after tidy (same 65 (λ e. absurd (omega arith)) (λ e. absurd (omega arith)) [])
            (holders_kept m after tidy tidy.new (λ tag a b c. same tag a b) (with_holder_count_rows unheld number count left.fits (rows_removed m (key_of (holding plan number)) tidy.rows)) holders);
      }

-- ---- In the new version rows of plans that were taken away can go.
module _ (m : KeyMap) (tidy : Tidy m) (is_new : tidy.new ≡ true) (d : Desk) (is : IsDesk m d) (plan : ℕ) (mark : Has m (retired plan) []) where
  module _ (number piece : ℕ) (fits : Fits (chunk number piece)) (naming : IsNamedBy m plan number) (uncounted_by_holders : Lacks m (holder_count number)) where
    abbrev without : KeyMap
    without = remove m (key_of (chunk number piece))

    piece_same : (tag : ℕ) → (tag ≡ 107 → ⊥) → SameTag tag m without
    piece_same tag apart = remove_keeps_tag m tag 107 (in_eight number ++ in_two piece) apart

    other_chunk : (other : ℕ) (districts : List ℕ) → (other ≡ number → ⊥) → HasChunk m other districts → HasChunk without other districts
    other_chunk other districts apart has = search (has.number_fits, has.some, has.few, has.each, remove_keeps_row, m, other_piece, has.pieces)

    revisions_here : (name : List ℕ) (owner last : ℕ) → IsNumbered m name owner → last < 2 ^ 32 → RevisionsStay m without owner last
    revisions_here name owner last there few revision counties some within has = record {
      numbers = has.numbers;
      names = names_stay m without owner revision has.numbers (piece_same 82 (λ e. absurd (omega arith))) has.names;
      count = has.count;
      chunks = λ county inside.
          let among_all : county < length has.numbers = (let count = has.count in omega arith) in
          let other = get_or has.numbers county 0 in
          let among : Contains has.numbers other = (county, among_all, get_or_default has.numbers county other 0 among_all) in
          let named_by = numbers_named m owner revision has.numbers there.fits (omega arith) has.names other among in
          -- (a plan that is there holds its chunks)
          other_chunk other (get_or counties county []) (λ same. none_holds m owner number tidy.holdings.counted_by_holders there.fits fits.0 uncounted_by_holders
          (subst (λ (k : ℕ). IsHeld m owner k) same (tidy.holdings.hold is_new name owner other there named_by))) (has.chunks county inside);
    }

    pub piece_swept : IsSwept d tidy.next tidy.new without
    piece_swept =
        let next = tidy.next in
        let kept = kept_of m tidy in
        let rows = rows_removed m (key_of (chunk number piece)) kept.rows in
        let parts : SameTag 82 m without = piece_same 82 (λ e. absurd (omega arith)) in
        let chunks = chunks_fewer m without next.chunk next.chunk (omega arith) (same_fewer 82 m without parts) (removed_fewer 107 m (key_of (chunk number piece)))
        (λ other index value few there owner named_by. (owner, naming_moves m without owner other parts named_by)) kept.chunks in
        record {
          desk = desk_moves m without d (piece_same 80 (λ e. absurd (omega arith))) (piece_same 83 (λ e. absurd (omega arith))) (piece_same 103 (λ e. absurd (omega arith))) revisions_here is;
          tidy = stays_tidy m without tidy (piece_same 65 (λ e. absurd (omega arith)) [])
              (search (arith, rows, plans_stay m without next.plan next.plan, chunks, holders_stay m without tidy.new, loads_stay m without next.load next.load, piece_same, kept));
        }

  -- ---- a part whose chunks the plan has let go, and that have no piece left or are another's too
  module _ (revision index : ℕ) (numbers : List ℕ) (fits : Fits (part plan revision index)) (chunks : AreChunks numbers) (row : Has m (part plan revision index) (chunks_bytes numbers)) (let_go : (number : ℕ) → Contains numbers number → Lacks m (holding plan number)) (gone : (number : ℕ) → Contains numbers number → IsFreeChunk m number ⊎ IsShared m number) where
    abbrev partless : KeyMap
    partless = remove m (key_of (part plan revision index))

    part_same : (tag : ℕ) → (tag ≡ 82 → ⊥) → SameTag tag m partless
    part_same tag apart = remove_keeps_tag m tag 82 ((in_eight plan ++ in_four revision) ++ in_one index) apart

    other_part : (owner k i : ℕ) → Fits (part owner k i) → (owner ≡ plan → ⊥) → row_in partless (part owner k i) ≡ row_in m (part owner k i)
    other_part owner k i few apart = remove_keeps_row m (part plan revision index) (part owner k i) fits few (λ same. apart (cc))

    revisions_there : (name : List ℕ) (owner last : ℕ) → IsNumbered m name owner → last < 2 ^ 32 → RevisionsStay m partless owner last
    revisions_there name owner last there few k counties some within has = record {
      numbers = has.numbers;
      names = record {
        few = has.names.few;
        each = has.names.each;
        parts = λ i small. other_part owner k i (there.fits, omega arith, small) (λ same. apart_from_gone m tidy name owner plan there mark same) ∙ has.names.parts i small;
      };
      count = has.count;
      chunks = λ county inside. chunk_stays m partless _ _ (part_same 107 (λ e. absurd (omega arith))) (has.chunks county inside);
    }

    -- a naming by another part, or by another plan, stays
    naming_other : (owner number : ℕ) (there : IsNamedBy m owner number) → (key_of (part owner there.revision there.index) ≡ key_of (part plan revision index) → ⊥) → IsNamedBy partless owner number
    naming_other owner number there apart = search (remove_keeps)

    -- the part that goes names these chunks alone
    among_gone : (owner number : ℕ) (there : IsNamedBy m owner number) → key_of (part owner there.revision there.index) ≡ key_of (part plan revision index) → Contains numbers number
    among_gone owner number there same =
        let bytes : chunks_bytes there.numbers ≡ chunks_bytes numbers = value_is (chunks_bytes there.numbers) (chunks_bytes numbers) (sym there.row ∙ ap (get m) same ∙ row) in
        subst (λ (l : List ℕ). Contains l number) (chunks_differ there.numbers numbers there.chunks chunks bytes) there.among

    -- what a plan holds it names still
    held_after : (owner number : ℕ) → IsHeld m owner number → IsNamedBy m owner number → IsNamedBy partless owner number
    held_after owner number held there = naming_other owner number there (λ same.
        let rows : part owner there.revision there.index ≡ part plan revision index = keys_differ (part owner there.revision there.index) (part plan revision index) there.part_fits fits same in
        no_value [] (sym held ∙ ap (λ (k : ℕ). row_in m (holding k number)) (cc) ∙ let_go number (among_gone owner number there same)))

    -- a chunk with a piece left is named still
    chunk_named : (owner number i : ℕ) (value : List ℕ) → number < 2 ^ 64 → i < 2 ^ 16 → Has m (chunk number i) value → IsNamedBy m owner number → (other : ℕ) × IsNamedBy partless other number
    chunk_named owner number i value number_fits small piece there = elim (cases_key (key_of (part owner there.revision there.index)) (key_of (part plan revision index))) [
      | inl same ↦ elim (gone number (among_gone owner number there same)) [
        | inl free ↦ absurd (no_value value (sym piece ∙ free i small))
        | inr shared ↦ (let another = another_holds m plan number shared.0 tidy.holdings.counted_by_holders number_fits shared.1 (let_go number (among_gone owner number there same)) in
            (another.other, held_after another.other number another.held (tidy.holdings.held another.other number [] (another.fits, number_fits) another.held).1))
      ]
      | inr apart ↦ (owner, naming_other owner number there apart)
    ]

    pub part_swept : IsSwept d tidy.next tidy.new partless
    part_swept =
        let next = tidy.next in
        let kept = kept_of m tidy in
        let was = λ (tag : ℕ). removed_fewer tag m (key_of (part plan revision index)) in
        let holdings : SameTag 72 m partless = part_same 72 (λ e. absurd (omega arith)) in
        record {
          desk = desk_moves m partless d (part_same 80 (λ e. absurd (omega arith))) (part_same 83 (λ e. absurd (omega arith))) (part_same 103 (λ e. absurd (omega arith))) revisions_there is;
          tidy = stays_tidy m partless tidy (part_same 65 (λ e. absurd (omega arith)) []) (record {
            rows = rows_removed m (key_of (part plan revision index)) kept.rows;
            plans = plans_fewer m partless next.plan next.plan (omega arith) (was 80) (was 68) (was 82) (λ owner k i value few there. known_moves m partless owner (part_same 80 (λ e. absurd (omega arith))) (part_same 68 (λ e. absurd (omega arith)))) kept.plans;
            chunks = chunks_fewer m partless next.chunk next.chunk (omega arith) (was 82) (was 107)
                (λ number i value few there owner named_by. chunk_named owner number i value few.0 few.1 (was 107 _ value there) named_by) kept.chunks;
            holders = holders_fewer m partless tidy.new (part_same 86 (λ e. absurd (omega arith)) _) (was 80) (was 72) (was 82) (holder_counts_stay m partless holdings (part_same 75 (λ e. absurd (omega arith))) tidy.holdings.counted_by_holders)
                (λ owner number value few there. let before = was 72 _ value there in held_after owner number (before ∙ ap Some (tidy.holdings.held owner number value few before).0))
                (λ name owner number there named_by held. holdings _ ∙ held) kept.holders;
            loads = loads_stay m partless next.load next.load (omega arith) (part_same 76 (λ e. absurd (omega arith))) (part_same 83 (λ e. absurd (omega arith))) (part_same 103 (λ e. absurd (omega arith))) kept.loads;
          });
        }
