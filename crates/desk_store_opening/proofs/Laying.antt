-- The counties of a revision, laid one after the other over the districts of the one before.
use Rattle.{std.{specs.List.concat, proofs.{Math.Seq.take-add, lemmas.{Bool.cases_lt, List.Elements.{All-drop, All-take}}}}, desk_model.specs.Ranges.{laid, ListsAreCut}}
use Rattle.std.proofs.Common.{rules, ◌≡◌, ◌<◌, ◌≤◌, ◌+◌, ◌-◌, ◌++◌, ℕ, zero, suc, List, [], ◌∷◌, length, get_or, take, take_all, drop, map, refl, sym, ap, subst, ◌∙◌, arith, append_assoc, length-append, length-drop, inl, inr, ◌*◌, ◌^◌}
use Rattle.std.proofs.lemmas.List.{append-nil, drop-append-le, drop-drop, drop_all, drop_at, length-take-le, take_at, take-append-drop, take-append-le}
use Rattle.{desk_model.specs.{claim.Room.rows_for, declared.ranges.CountyRange.CountyRange}, desk_store_catalogue.specs.desk_store_lists.Laid.with_at}
use Rattle.{desk_store_opening.specs.Reading.{AreCountiesOf, AreNamed, AreChunksRead, IsCounty, IsCountyRead, IsLaid, no_cut, part_of}, desk_store_rows.specs.claim.Rows.KeyMap}
use Rattle.{desk_store_rows.{specs.claim.{Lists.districts_bytes, RevisionRows.HasChunk}, proofs.ChunkRows.few_rows}, plan_revisions.specs.chunk_table.ChunkReading.HasPieces}
use Rattle.{desk_store_pages.proofs.ListParts.{part_there, some_of_part, most_of_part, each_of_part, parts_more}, desk_store_rows.proofs.ListLaws.districts_differ}
use Rattle.desk_store_rows.proofs.OneGeography.{value_is as given}

-- ---- a number names one list of so many districts
module _ (m : KeyMap) (number : ℕ) (a b : List ℕ) (one : HasChunk m number a) (other : HasChunk m number b) (long : length a ≡ length b) where
  same_piece : (k : ℕ) → k < 2 ^ 16 → 512 * k < length a → take 512 (drop (512 * k) a) ≡ take 512 (drop (512 * k) b)
  same_piece k few within =
      let there : 512 * k < length b = omega arith in
      districts_differ (take 512 (drop (512 * k) a)) (take 512 (drop (512 * k) b))
      (record { some = some_of_part 512 (512 * k) a (omega arith) within; most = most_of_part 512 (512 * k) a; each = each_of_part (λ d. d < 2 ^ 16) 512 (512 * k) a one.each })
      (record { some = some_of_part 512 (512 * k) b (omega arith) there; most = most_of_part 512 (512 * k) b; each = each_of_part (λ d. d < 2 ^ 16) 512 (512 * k) b other.each })
      (given (districts_bytes (take 512 (drop (512 * k) a))) (districts_bytes (take 512 (drop (512 * k) b)))
      (sym (part_there 512 districts_bytes a k within) ∙ sym (one.pieces k few) ∙ other.pieces k few ∙ part_there 512 districts_bytes b k there))

  same_prefix : (k : ℕ) → ((i : ℕ) → i < k → (i < 2 ^ 16) × (512 * i < length a)) → take (512 * k) a ≡ take (512 * k) b
  same_prefix zero within = refl
  same_prefix (suc k) within =
      let here = within k (omega arith) in
      let prefixes : take (512 * k) a ≡ take (512 * k) b = same_prefix k (λ i less. within i (omega arith)) in
      let next : suc k ≡ k + 1 = omega arith in
      rw next (sym (parts_more 512 k a) ∙ (λ i. prefixes i ++ same_piece k here.0 here.1 i) ∙ parts_more 512 k b)

  pub one_chunk : a ≡ b
  one_chunk =
      let few = one.few in
      let end : length a ≤ 512 * rows_for 512 (length a) = all_rows (length a) in
      sym (take_all (512 * rows_for 512 (length a)) a end)
      ∙ same_prefix (rows_for 512 (length a)) (λ i less. (few_rows (length a) i few less, within_rows (length a) i less))
      ∙ take_all (512 * rows_for 512 (length a)) b (omega arith)
    where
      all_rows : (n : ℕ) → n ≤ 512 * rows_for 512 n
      all_rows n = omega arith

      within_rows : (n i : ℕ) → i < rows_for 512 n → 512 * i < n
      within_rows n i less = omega arith

-- ---- a part in the place of its own
pub with_long : (first : ℕ) (part ds : List ℕ) → first + length part ≤ length ds → length (with_at first part ds) ≡ length ds
with_long first part ds within = search (rules, length-drop, length-append)

module _ (p n : ℕ) (all before : List ℕ) (within : p + n ≤ length all) where
  prefix_long : length (take p all) ≡ p
  prefix_long = length-take-le p all (omega arith)

  part_long : length (take n (drop p all)) ≡ n
  part_long = let rest = length-drop p all in length-take-le n (drop p all) (omega arith)

  later : drop p (take p all ++ drop p before) ≡ drop p before
  later = drop_at (take p all) (drop p before) p prefix_long

  after_more : drop (p + length (take n (drop p all))) (take p all ++ drop p before) ≡ drop (p + n) before
  after_more = search (part_long, drop-drop n p (take p all ++ drop p before), later, drop-drop n p before)

  -- a part is laid after those before it
  laid_more : with_at p (take n (drop p all)) (take p all ++ drop p before) ≡ take (p + n) all ++ drop (p + n) before
  laid_more =
      (λ i. take_at (take p all) (drop p before) p prefix_long i ++ (take n (drop p all) ++ after_more i))
      ∙ sym (append_assoc (take p all) (take n (drop p all)) (drop (p + n) before))
      ∙ ap (λ (l : List ℕ). l ++ drop (p + n) before) (sym (take-add p n all))

-- a part that stands there already changes nothing
in_place : (p n : ℕ) (ds : List ℕ) → p + n ≤ length ds → with_at p (take n (drop p ds)) ds ≡ ds
in_place p n ds within = search (take-append-drop p ds, laid_more p n ds ds within, take-append-drop (p + n) ds)

-- ---- what stands at a place of what a part was laid over
module _ (p : ℕ) (part ds : List ℕ) (within : p + length part ≤ length ds) where
  prefix_at : length (take p ds) ≡ p
  prefix_at = length-take-le p ds (omega arith)

  -- before it
  kept_prefix : (at n : ℕ) (rest : List ℕ) → at + n ≤ p → take n (drop at (take p ds ++ rest)) ≡ take n (drop at (take p ds))
  kept_prefix at n rest before = search (rules, prefix_at, length-drop, drop-append-le, take-append-le)

  pub before_part : (at n : ℕ) → at + n ≤ p → take n (drop at (with_at p part ds)) ≡ take n (drop at ds)
  before_part at n before = search (kept_prefix at n (part ++ drop (p + length part) ds) before, kept_prefix at n (drop p ds) before, take-append-drop p ds)

  -- itself
  pub at_part : take (length part) (drop p (with_at p part ds)) ≡ part
  at_part =
      ap (λ (l : List ℕ). take (length part) l) (drop_at (take p ds) (part ++ drop (p + length part) ds) p prefix_at)
      ∙ take_at part (drop (p + length part) ds) (length part) refl

  -- after it
  end_at : drop (p + length part) (with_at p part ds) ≡ drop (p + length part) ds
  end_at =
      sym (drop-drop (length part) p (with_at p part ds))
      ∙ ap (λ (l : List ℕ). drop (length part) l) (drop_at (take p ds) (part ++ drop (p + length part) ds) p prefix_at)
      ∙ drop_at part (drop (p + length part) ds) (length part) refl

  pub after_part : (at n : ℕ) → p + length part ≤ at → take n (drop at (with_at p part ds)) ≡ take n (drop at ds)
  after_part at n after =
      let more = at - (p + length part) in
      let is : (p + length part) + more ≡ at = omega arith in
      search (drop-drop more (p + length part) (with_at p part ds), end_at, drop-drop more (p + length part) ds)

-- ---- a county that the revision before has too
pub known_stays : (n number : ℕ) (c : CountyRange) (last : List ℕ) (county : ℕ) (districts : List ℕ) (m : KeyMap) (chunk : List ℕ)
    → c.first + c.count ≤ length districts → county < length last → get_or last county 0 ≡ number
    → IsCounty n number c last county districts m chunk → districts ≡ with_at c.first chunk districts
known_stays n number c last county districts m chunk within there same said =
    let part = take c.count (drop c.first districts) in
    let long : length part ≡ length chunk = part_long c.first c.count districts districts within ∙ sym said.is.is.long in
    let is = one_chunk m number part chunk (subst (λ n. HasChunk m n part) same (said.known there)) said.is.is.has long in
    sym (ap (λ (l : List ℕ). with_at c.first l districts) (sym is) ∙ in_place c.first c.count districts within)

-- ---- where counties begin
-- after those before it
abbrev pub place_at : ℕ → List CountyRange → ℕ
place_at zero ranges = 0
place_at (suc k) [] = 0
place_at (suc k) (c ∷ ranges) = c.count + place_at k ranges

place_more : (k : ℕ) (ranges : List CountyRange) (d : CountyRange) → k < length ranges → place_at (suc k) ranges ≡ place_at k ranges + (get_or ranges k d).count
place_more k [] d within = absurd (omega arith)
place_more zero (c ∷ ranges) d within = omega arith
place_more (suc k) (c ∷ ranges) d within = let rest = place_more k ranges d (omega arith) in omega arith

place_rises : (j k : ℕ) (ranges : List CountyRange) → j ≤ k → place_at j ranges ≤ place_at k ranges
place_rises (suc j) zero ranges less = absurd (omega arith)
place_rises (suc j) (suc k) (c ∷ ranges) less = let rest = place_rises j k ranges (omega arith) in omega arith
place_rises _ _ _ less = omega arith

first_at : (first : ℕ) (ns : List ℕ) (k : ℕ) (d : CountyRange) → k < length (laid first ns)
    → (get_or (laid first ns) k d).first ≡ first + place_at k (laid first ns)
first_at first [] k d within = absurd (omega arith)
first_at first (n ∷ ns) zero d within = omega arith
first_at first (n ∷ ns) (suc k) d within = let rest = first_at (first + n) ns k d (omega arith) in omega arith

-- all of them have as many blocks as there are
abbrev total : List ℕ → ℕ
total [] = 0
total (n ∷ ns) = n + total ns

laid_total : (first : ℕ) (ns : List ℕ) → place_at (length (laid first ns)) (laid first ns) ≡ total ns
laid_total first [] = refl
laid_total first (n ∷ ns) = ap (λ k. n + k) (laid_total (first + n) ns)

joined_long : (parts : List (List ℕ)) → length (concat parts) ≡ total (map length parts)
joined_long [] = refl
joined_long (part ∷ parts) = length-append part (concat parts) ∙ ap (λ n. length part + n) (joined_long parts)

-- ---- the counties before one are those of a revision, and the others those of the one before
abbrev pub so_far : List CountyRange → List ℕ → List ℕ → ℕ → List ℕ
so_far ranges all before k = take (place_at k ranges) all ++ drop (place_at k ranges) before

module _ (lists : ListsAreCut) (ranges : List CountyRange) (count : ℕ) (are : AreCountiesOf ranges count) where
  all_placed : (xs : List ℕ) → length xs ≡ count → place_at (length ranges) ranges ≡ length xs
  all_placed xs whole = let cut_up = lists are.the_geography xs (whole ∙ are.blocks) in search (rules, laid_total, joined_long)

  pub all_laid : (all before : List ℕ) (k : ℕ) → length before ≡ count → length all ≡ length before → k ≡ length ranges
      → so_far ranges all before k ≡ all
  all_laid all before k whole long end =
      let placed : place_at k ranges ≡ length all = ap (λ n. place_at n ranges) end ∙ all_placed all (long ∙ whole) in
      ap (λ p. take p all ++ drop p before) placed
      ∙ (λ i. take_all (length all) all (omega arith) i ++ drop_all (length all) before (omega arith) i)
      ∙ append-nil all

  module _ (k : ℕ) (d : CountyRange) (within : k < length ranges) where
    abbrev pub here : CountyRange
    here = get_or ranges k d

    begins : here.first ≡ place_at k ranges
    begins = search (rules, first_at)

    ends : here.first + here.count ≡ place_at (suc k) ranges
    ends = let at = begins in let more = place_more k ranges d within in omega arith

    pub county_fits : (xs : List ℕ) → length xs ≡ count → here.first + here.count ≤ length xs
    county_fits xs whole = omega (arith, ends, place_rises (suc k) (length ranges) ranges (omega arith), all_placed xs whole)

    module _ (n : ℕ) (names last before all districts : List ℕ) (number : ℕ) (m : KeyMap) (whole : length before ≡ count)
        (said : AreNamed n ranges names last before m all) (each : length names ≡ length ranges) (numbered : number ≡ get_or names k 0)
        (laid_so : districts ≡ so_far ranges all before k) where
      fits : here.first + here.count ≤ length all
      fits = county_fits all (said.long ∙ whole)

      abbrev pub chunk_of : List ℕ
      chunk_of = take here.count (drop here.first all)

      from_first : districts ≡ take here.first all ++ drop here.first before
      from_first = laid_so ∙ ap (λ p. take p all ++ drop p before) (sym begins)

      still_before : take here.count (drop here.first districts) ≡ take here.count (drop here.first before)
      still_before = search (from_first, later here.first here.count all before fits)

      -- so the next county is this one's chunk
      pub is_county : IsCounty n number here last k districts m chunk_of
      is_county =
          let there : k < length names = omega arith in
          let has = subst (λ k. HasChunk m k chunk_of) (sym numbered) (said.named k d there within) in
          let few = All-take (λ (x : ℕ). x ≤ n) here.count (drop here.first all) (All-drop (λ (x : ℕ). x ≤ n) here.first all said.within) in
          record {
            is = record { is = record { has = has; long = part_long here.first here.count all before fits }; within = few };
            known = λ known. subst (λ (l : List ℕ). HasChunk m (get_or last k 0) l) (sym still_before) (said.known k d known within);
          }

      -- and with it one county more is laid
      pub county_more : with_at here.first chunk_of districts ≡ so_far ranges all before (k + 1)
      county_more = search (rules, from_first, laid_more, fits, ends)

-- ---- the first counties were read, and the others stand as before
pub record LaidTo (ranges : List CountyRange) (names last before : List ℕ) (m : KeyMap) (k : ℕ) (districts : List ℕ) : Type 0 where
  pub read : AreChunksRead last before ranges m → (county : ℕ) → county < k → county < length ranges
      → HasPieces (get_or names county 0) (get_or ranges county no_cut).count m (part_of (get_or ranges county no_cut) districts)
  pub rest : (county : ℕ) → k ≤ county → county < length ranges
      → part_of (get_or ranges county no_cut) districts ≡ part_of (get_or ranges county no_cut) before

pub none_laid : (ranges : List CountyRange) (names last before : List ℕ) (m : KeyMap) → LaidTo ranges names last before m 0 before
none_laid ranges names last before m = record { read = λ are county less. absurd (omega arith); rest = λ county from within. refl }

module _ (lists : ListsAreCut) (ranges : List CountyRange) (count : ℕ) (are : AreCountiesOf ranges count) (names last before : List ℕ) (m : KeyMap) (k : ℕ)
    (within : k < length ranges) (districts after : List ℕ) (long : length districts ≡ count) (laid_so : LaidTo ranges names last before m k districts) where
  abbrev at : ℕ → CountyRange
  at county = get_or ranges county no_cut

  apart : (i j : ℕ) → i < j → j < length ranges → (at i).first + (at i).count ≤ (at j).first
  apart i j less inside = search (ends lists ranges count are i no_cut (omega arith), begins lists ranges count are j no_cut inside, place_rises (suc i) j ranges (omega arith))

  module _ (number : ℕ) (numbered : number ≡ get_or names k 0) where
    -- the county stays
    stays_so : k < length last → get_or last k 0 ≡ number → after ≡ districts → LaidTo ranges names last before m (k + 1) after
    stays_so known same is = record {
      read = λ read county less inside. search (arith, cases_lt county k);
      rest = λ county from inside. ap (λ (l : List ℕ). part_of (at county) l) is ∙ laid_so.rest county (omega arith) inside;
    }

    -- or is read
    module _ (laid : IsLaid number (at k) districts m after) where
      fits_so : (at k).first + length laid.chunk ≤ length districts
      fits_so = search (laid.pieces.long, county_fits)

      here_so : part_of (at k) after ≡ laid.chunk
      here_so = search (rules, at_part, fits_so)

      reads_so : LaidTo ranges names last before m (k + 1) after
      reads_so = record {
        read = λ read county less inside. elim (cases_lt county k) [
          | inl earlier ↦
              let same = ap (λ (l : List ℕ). part_of (at county) l) laid.is ∙ before_part (at k).first laid.chunk districts fits_so (at county).first (at county).count (apart county k earlier within) in
              subst (λ (l : List ℕ). HasPieces (get_or names county 0) (at county).count m l) (sym same) (laid_so.read read county earlier inside)
          | inr not ↦
              let here : k ≡ county = omega arith in
              subst (λ (i : ℕ). HasPieces (get_or names i 0) (at i).count m (part_of (at i) after)) here
              (subst (λ (n : ℕ). HasPieces n (at k).count m (part_of (at k) after)) numbered
              (subst (λ (l : List ℕ). HasPieces number (at k).count m l) (sym here_so) laid.pieces))
        ];
        rest = λ county from inside. search (rules, apart, after_part, fits_so);
      }

    pub laid_one_more : IsCountyRead number (at k) last k districts m after → LaidTo ranges names last before m (k + 1) after
    laid_one_more (inl (known, same, is)) = stays_so known same is
    laid_one_more (inr laid) = reads_so laid
