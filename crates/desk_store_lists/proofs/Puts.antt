-- A part of a list in the place of its own.
use Rattle.{std.{specs.Prelude.unwrap_or, proofs.lemmas.Bool.{cases_lt, le-ltb}}, desk_store_lists.{specs.Laid.{listed_at, laid, with_at}, proofs.Cut.{cut_of, joined_long}}}
use Rattle.std.proofs.Common.{rules, ◌≡◌, ℕ, suc, ◌+◌, ◌-◌, ◌*◌, ◌^◌, ◌<◌, ◌≤◌, List, [], ◌∷◌, ◌++◌, length, get_or, take, take_all, drop, map, length-append, length-take, length-drop, Option, Some, None, arith, refl, ap, sym, ◌∙◌, ◌⊎◌, inl, inr, min, max}
use Rattle.std.proofs.lemmas.List.{get_or_past, ext_get_or, drop-drop, get_or-map, length-map, get_or-take, get_or-drop, get_or_append_left, get_or-append_right, append-nil, drop_all}
use Rattle.desk_store_lists.{specs.Pieces.{Piece, joined, AreFull, ArePut, IsCut}, proofs.Laying.{Fit, length-laid, get_or-laid, laid-append, unlaid_apart, not_before, not_after}}
use borrow.Rule.Slice.PartMut.{put_mid}

get_same : (xs : List ℕ) (i j : ℕ) → i ≡ j → get_or xs i 0 ≡ get_or xs j 0
get_same xs i j same = ap (λ (k : ℕ). get_or xs k 0) same

-- what was put into the middle of a list
pub in_middle : (a b : ℕ) (xs ds ys new : List ℕ) → a ≤ b → xs ≡ ds → ys ≡ new → put_mid a (b - a) xs ys ≡ take a ds ++ (new ++ drop b ds)
in_middle a b xs ds ys new order same is = search (rules, drop-drop)

module _ (first : ℕ) (part : List ℕ) where
  abbrev pub listed : List (Option ℕ)
  listed = map Some part

  listed_long : length listed ≡ length part
  listed_long = length-map part Some

  -- what is listed of a place among those of the part
  among : (place : ℕ) → first ≤ place → place < first + length part → listed_at first listed place ≡ Some (get_or part (place - first) 0)
  among place from to = rw (le-ltb place first from) (get_or-map Some part (place - first) 0 None (omega arith))

  -- two places between which a list has a part of the part
  pub record IsCutOut (start many from to : ℕ) : Type 0 where
    pub order : from ≤ to
    pub here : start ≤ from
    pub there : first ≤ from
    pub end : to ≤ start + many
    pub end_there : to ≤ first + length part
    pub begins : (from ≡ start) ⊎ (from ≡ first)
    pub ends : (to ≡ start + many) ⊎ (to ≡ first + length part)
    pub order_here : from - start ≤ to - start
    pub order_there : from - first ≤ to - first
    pub within_here : to - start ≤ many
    pub within_there : to - first ≤ length part
    pub to_here : start ≤ to
    pub to_there : first ≤ to

  -- the part of the part that lies in a list between two places
  module _ (start : ℕ) (ds : List ℕ) (from to : ℕ) (cut : IsCutOut start (length ds) from to) where
    abbrev pub cut_out : List ℕ
    cut_out = take (to - first - (from - first)) (drop (from - first) part)

    cut_long : length cut_out ≡ to - from
    cut_long = let rest = length-drop (from - first) part in let long = length-take (to - first - (from - first)) (drop (from - first) part) in omega arith

    pub fit_cut_out : length cut_out ≡ to - start - (from - start)
    fit_cut_out = omega (arith, cut_long)

    abbrev pub prefix : List ℕ
    prefix = take (from - start) ds

    prefix_long : length prefix ≡ from - start
    prefix_long = omega (arith, length-take (from - start) ds)

    abbrev pub back : List ℕ
    back = drop (to - start) ds

    put_long : length (prefix ++ (cut_out ++ back)) ≡ length ds
    put_long = omega (arith, length-append prefix (cut_out ++ back), length-append cut_out back, cut_long, prefix_long, length-drop (to - start) ds)

    put_at : (i : ℕ) → i < length ds → get_or (prefix ++ (cut_out ++ back)) i 0 ≡ unwrap_or (listed_at first listed (start + i)) (get_or ds i 0)
    put_at i within =
        search (rules, cases_lt, get_or_append_left, prefix_long, get_or-take, not_before, get_or-append_right, cut_long, get_or-drop, get_same, among, not_after, listed_long)

    pub laid_between : prefix ++ (cut_out ++ back) ≡ laid first listed start ds
    laid_between = ext_get_or 0 (prefix ++ (cut_out ++ back)) (laid first listed start ds) (put_long ∙ sym (length-laid first listed start ds))
        (λ i within. let long = put_long in put_at i (omega arith) ∙ sym (get_or-laid first listed start ds i (omega arith)))

    -- where it is as long as the list, it is all of it
    pub all_cut_out : length cut_out ≡ length ds → cut_out ≡ laid first listed start ds
    all_cut_out long =
        let e : from - start ≡ 0 = omega (arith, cut_long, long, cut.here, cut.end) in
        let f : length ds ≤ to - start = omega (arith, cut_long, long, cut.here, cut.end) in
        sym (append-nil cut_out) ∙ (λ i. take (sym e i) ds ++ (cut_out ++ sym (drop_all (to - start) ds f) i)) ∙ laid_between

  pub is_cut_out : (start many from to : ℕ) → from ≡ max first start → to ≡ min (first + length part) (start + many) → (first < start + many) × (start < first + length part) → IsCutOut start many from to
  is_cut_out start many from to is_from is_to beside = search rules

  -- where none of the places is the part's, the list stays
  pub laid_apart : (start : ℕ) (ds : List ℕ) (count : ℕ) → count ≡ length ds → (start + count ≤ first) ⊎ (first + length part ≤ start) → ds ≡ laid first listed start ds
  laid_apart start ds count long apart = search (rules, unlaid_apart, listed_long)

  -- laid over a whole list, the part stands at its place
  pub laid_at : (ds : List ℕ) → first + length part ≤ length ds → laid first listed 0 ds ≡ with_at first part ds
  laid_at ds within =
      sym (laid_between 0 ds first (first + length part) (search rules))
      ∙ (λ i. take (from i) ds ++ (all i ++ drop (to i) ds))
    where
      from : first - 0 ≡ first
      from = omega arith

      to : first + length part - 0 ≡ first + length part
      to = omega arith

      none : first - first ≡ 0
      none = omega arith

      all : take (first + length part - first - (first - first)) (drop (first - first) part) ≡ part
      all = rw none (take_all (first + length part - first - 0) part (omega arith))

  -- ---- pieces, one after the other
  -- those before a place have the part, and those from there on are as they were
  pub record IsPut (old new : List Piece) (k : ℕ) : Type 0 where
    pub long : length new ≡ length old
    pub done : (i : ℕ) (d : Piece) → i < length old → i < k → (get_or new i d) ≡ laid first listed (i * 512) (get_or old i d)
    pub rest : (i : ℕ) (d : Piece) → k ≤ i → get_or new i d ≡ get_or old i d

  pub put_none : (old : List Piece) (k : ℕ) → AreFull old → k * 512 ≤ first → IsPut old old k
  put_none old k full before = search (rules, laid_apart)

  pub put_all : (old new : List Piece) (k : ℕ) → IsPut old new k → AreFull old → (first + length part ≤ k * 512) ⊎ (length old ≤ k) → ArePut first part old new
  put_all old new k was full past = search (rules, laid_apart)

  -- ---- the pieces joined
  pub from_there : (start from : ℕ) (ds : List ℕ) → start ≡ from → laid first listed start ds ≡ laid first listed from ds
  from_there start from ds same = ap (λ (k : ℕ). laid first listed k ds) same

  each_laid : (start : ℕ) (old new : List Piece) → AreFull old → length new ≡ length old
      → ((i : ℕ) (d : Piece) → i < length old → (get_or new i d) ≡ laid first listed (start + i * 512) (get_or old i d)) → joined new ≡ laid first listed start (joined old)
  each_laid start [] [] full long each = refl
  each_laid start (o ∷ os) (n ∷ ns) full long each =
      let one : length o ≡ 512 = full 0 o (omega arith) in
      let here : n ≡ laid first listed start o = each 0 o (omega arith) ∙ from_there (start + 0 * 512) start o (omega arith) in
      let rest : joined ns ≡ laid first listed (start + 512) (joined os)
      = each_laid (start + 512) os ns (λ k d within. full (suc k) d (omega arith)) (omega arith) (λ k d within. each (suc k) d (omega arith) ∙ from_there (start + suc k * 512) (start + 512 + k * 512) (get_or os k d) (omega arith)) in
      search (rules, laid-append)
  each_laid start _ _ full long each = absurd (omega arith)

  module _ (old new : List Piece) (kept rest : Piece) (full : AreFull old) (put : ArePut first part old new) (is : rest ≡ laid first listed (length new * 512) kept) where
    pub put_whole : joined new ++ rest ≡ laid first listed 0 (joined old ++ kept)
    put_whole = search (rules, each_laid, put.long, put.each, joined_long, laid-append)

    fits_at : (o : Option ℕ) (own : ℕ) → ((k : ℕ) → get_or part k 0 < 2 ^ 16) → own < 2 ^ 16 → (k : ℕ) → (o ≡ None) ⊎ (o ≡ Some (get_or part k 0)) → unwrap_or o own < 2 ^ 16
    fits_at o own small less k is = elim is [ inl none ↦ rw none less | inr some ↦ rw some (small k) ]

    pub put_cut : (count : ℕ) → Fit part → IsCut old kept count → IsCut new rest count
    put_cut count small cut = cut_of new rest (laid first listed 0 (joined old ++ kept)) count (search (rules, length-laid)) put_whole
        (cut.counted ∙ sym (length-append (joined old) kept) ∙ sym (length-laid first listed 0 (joined old ++ kept)))
        (λ i. search (rules, cases_lt, get_or-laid, fits_at, not_before, among, not_after, listed_long, get_or_past, length-laid))
