-- Listed districts that are laid over others.
use Rattle.std.{specs.Prelude.{unwrap_or, nat_lt, ◌-◌}, proofs.lemmas.{Bool.{cond_both, lt-ltb}, List.{ext_get_or, get_or_past, take_all, length-take, Elements.All-take}}}
use Rattle.std.proofs.Common.{rules, ◌≡◌, ℕ, zero, suc, ◌+◌, ◌*◌, ◌^◌, ◌<◌, ◌≤◌, List, [], ◌∷◌, ◌++◌, length, get_or, take, subst, length-append, Option, None, arith, refl, ap, sym, ◌∙◌, ◌⊎◌}
use Rattle.desk_store_lists.{specs.{Laid.{listed_at, laid}, Pieces.{Piece, joined, AreFull, IsCut}}, proofs.Cut.{joined_long, joined_push, full_push, joined_take, cut_of}}

module _ (first : ℕ) (listed : List (Option ℕ)) where
  pub length-laid : (place : ℕ) (ds : List ℕ) → length (laid first listed place ds) ≡ length ds
  length-laid place [] = refl
  length-laid place (d ∷ ds) = ap suc (length-laid (suc place) ds)

  at_next : (d place n : ℕ) → place ≡ n → unwrap_or (listed_at first listed place) d ≡ unwrap_or (listed_at first listed n) d
  at_next d place n same = ap (λ k. unwrap_or (listed_at first listed k) d) same

  pub get_or-laid : (place : ℕ) (ds : List ℕ) (i : ℕ) → i < length ds → get_or (laid first listed place ds) i 0 ≡ unwrap_or (listed_at first listed (place + i)) (get_or ds i 0)
  get_or-laid place [] i within = absurd (omega arith)
  get_or-laid place (d ∷ ds) zero within = at_next d place (place + zero) (omega arith)
  get_or-laid place (d ∷ ds) (suc i) within = get_or-laid (suc place) ds i (omega arith) ∙ at_next (get_or ds i 0) (suc place + i) (place + suc i) (omega arith)

  pub laid-append : (place : ℕ) (xs ys : List ℕ) → laid first listed place (xs ++ ys) ≡ laid first listed place xs ++ laid first listed (place + length xs) ys
  laid-append place [] ys = ap (λ n. laid first listed n ys) (omega arith)
  laid-append place (x ∷ xs) ys =
      ap (λ l. unwrap_or (listed_at first listed place) x ∷ l)
      (laid-append (suc place) xs ys ∙ ap (λ n. laid first listed (suc place) xs ++ laid first listed n ys) (omega arith))

  -- the places before one are laid over, those from there on are as they were
  pub record IsLaid (start : ℕ) (old new : List ℕ) (k : ℕ) : Type 0 where
    pub long : length new ≡ length old
    pub done : (i : ℕ) → i < k → get_or new i 0 ≡ unwrap_or (listed_at first listed (start + i)) (get_or old i 0)
    pub rest : (i : ℕ) → k ≤ i → get_or new i 0 ≡ get_or old i 0

  pub laid_all : (start : ℕ) (old new : List ℕ) (k : ℕ) → IsLaid start old new k → length new ≤ k → new ≡ laid first listed start old
  laid_all start old new k was past =
      ext_get_or 0 new (laid first listed start old) (was.long ∙ sym (length-laid start old))
      (λ i within. was.done i (omega arith) ∙ sym (get_or-laid start old i (omega arith)))

  -- where nothing is listed of any place, the list stays
  pub unlaid : (place : ℕ) (ds : List ℕ) → ((i : ℕ) → i < length ds → listed_at first listed (place + i) ≡ None) → laid first listed place ds ≡ ds
  unlaid place ds none =
      ext_get_or 0 (laid first listed place ds) ds (length-laid place ds)
      (λ i within. get_or-laid place ds i (omega (arith, length-laid place ds)) ∙ ap (λ (d : Option ℕ). unwrap_or d (get_or ds i 0)) (none i (omega (arith, length-laid place ds))))

  pub not_before : (place : ℕ) → place < first → listed_at first listed place ≡ None
  not_before place less = rw (lt-ltb place first less) refl

  pub not_after : (place : ℕ) → first + length listed ≤ place → listed_at first listed place ≡ None
  not_after place more =
      rw (get_or_past listed (place - first) None (omega arith)) (cond_both {A = Option ℕ} (nat_lt place first) None None (λ o. o ≡ None) (λ is. refl) (λ is. refl))

  -- nor where all places are before or after what is listed
  pub unlaid_apart : (place : ℕ) (ds : List ℕ) (count : ℕ) → count ≡ length ds → (place + count ≤ first) ⊎ (first + length listed ≤ place) → ds ≡ laid first listed place ds
  unlaid_apart place ds count long apart = search (rules, unlaid, not_after)

-- each of the numbers has two bytes
abbrev pub Fit : List ℕ → Type 0
Fit ds = (i : ℕ) → get_or ds i 0 < 2 ^ 16

pub append_fit : (ds es : List ℕ) → Fit ds → Fit es → Fit (ds ++ es)
append_fit [] es small more i = more i
append_fit (d ∷ ds) es small more zero = small zero
append_fit (d ∷ ds) es small more (suc i) = append_fit ds es (λ k. small (suc k)) more i

-- ---- lists in pieces
module _ (first : ℕ) (listed : List (Option ℕ)) (ps new : List Piece) (all : List Piece) (k : ℕ) (p d : Piece) where
  pub next_laid : joined ps ≡ laid first listed 0 (joined (take k all)) → AreFull all → k < length all → new ≡ ps ++ p ∷ [] → p ≡ laid first listed (k * 512) (get_or all k d)
      → joined new ≡ laid first listed 0 (joined (take (k + 1) all))
  next_laid same full within put is =
      let so_long = joined_long (take k all) (All-take (λ q. length q ≡ 512) k all full) in
      joined_push ps new p put (laid first listed 0 (joined (take k all))) same
      ∙ ap (λ l. laid first listed 0 (joined (take k all)) ++ l) (is ∙ ap (λ n. laid first listed n (get_or all k d)) (omega (arith, so_long, length-take k all)))
      ∙ sym (laid-append first listed 0 (joined (take k all)) (get_or all k d)) ∙ ap (laid first listed 0) (joined_take all k d within)

  pub next_fit : Fit (joined ps) → Fit p → new ≡ ps ++ p ∷ [] → Fit (joined new)
  next_fit so_far fits put = subst Fit (sym (joined_push ps new p put (joined ps) refl)) (append_fit (joined ps) p so_far fits)

  pub next_full_laid : AreFull ps → AreFull all → k < length all → new ≡ ps ++ p ∷ [] → p ≡ laid first listed (k * 512) (get_or all k d) → AreFull new
  next_full_laid so_far full within put is = full_push ps new p put so_far (ap length is ∙ length-laid first listed (k * 512) (get_or all k d) ∙ full k d within)

-- the pieces and the one after them, when all are laid over
module _ (first : ℕ) (listed : List (Option ℕ)) (ps full : List Piece) (rest kept : Piece) (k : ℕ) (same : joined ps ≡ laid first listed 0 (joined (take k full))) (all : length full ≤ k)
    (are_full : AreFull full) (is : rest ≡ laid first listed (length full * 512) kept) where
  pub laid_whole : joined ps ++ rest ≡ laid first listed 0 (joined full ++ kept)
  laid_whole = search (rules, take_all, joined_long, laid-append)

  pub laid_cut : (count : ℕ) → AreFull ps → IsCut full kept count → Fit (joined ps) → Fit rest → IsCut ps rest count
  laid_cut count so_far cut fits fits_after = cut_of ps rest (joined ps ++ rest) count so_far refl
      (cut.counted ∙ sym (length-append (joined full) kept) ∙ sym (length-laid first listed 0 (joined full ++ kept)) ∙ sym (ap length laid_whole))
      (append_fit (joined ps) rest fits fits_after)
