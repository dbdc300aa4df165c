-- Where a place lies among pieces.
use Rattle.std.{specs.{Cmp.Lexicographic.{pointwise, same_text}, Prelude.nat_eq}, proofs.{Math.Seq.{drop-append-add, take-append_seam, take-add}, lemmas.Bool.and_parts}}
use Rattle.std.proofs.Common.{rules, Bool, ◌≡◌, ℕ, zero, suc, ◌+◌, ◌-◌, ◌*◌, ◌/◌, ◌%◌, ◌<◌, ◌≤◌, ◌^◌, true, false, List, [], ◌∷◌, ◌++◌, length, take, drop, get_or, arith, refl, ap, sym, ◌∙◌, length-append, append_assoc, subst}
use Rattle.std.proofs.lemmas.{Bool.Decides.nat_tests, List.Elements.{All-push, All-tail}, Nat.{div-add-mod', mod_below}}
use Rattle.std.proofs.lemmas.List.{take-take, drop-append-le, take_all, drop-drop, length-drop, length-take, flat_map_more, take_more, take-append-drop, get_or-drop, get_or-take, get_or_append_left, get_or-append_right}
use Rattle.desk_store_lists.specs.Pieces.{Piece, joined, AreFull, IsCut}

pub joined_long : (ps : List Piece) → AreFull ps → length (joined ps) ≡ length ps * 512
joined_long [] full = refl
joined_long (p ∷ ps) full = omega (arith, length-append p (joined ps), full 0 p (omega arith), joined_long ps (All-tail (λ p. length p ≡ 512) p ps full))

-- one piece more
module _ (ps new : List Piece) (p : Piece) (put : new ≡ ps ++ p ∷ []) where
  pub joined_push : (before : List ℕ) → joined ps ≡ before → joined new ≡ before ++ p
  joined_push before same = ap joined put ∙ sym (flat_map_more (λ (q : Piece). q) [] ps p) ∙ ap (λ l. l ++ p) same

  pub full_push : AreFull ps → length p ≡ 512 → AreFull new
  full_push full one = subst AreFull (sym put) (All-push (λ q. length q ≡ 512) ps p full one)

-- the pieces before a place, and the one there
pub joined_take : (all : List Piece) (k : ℕ) (d : Piece) → k < length all → joined (take k all) ++ (get_or all k d) ≡ joined (take (k + 1) all)
joined_take all k d within = flat_map_more (λ (q : Piece). q) [] (take k all) (get_or all k d) ∙ sym (ap joined (take_more all k d within))

-- pieces that make a list, full ones and one after them
pub cut_of : (ps : List Piece) (rest : Piece) (all : List ℕ) (count : ℕ) → AreFull ps → joined ps ++ rest ≡ all → count ≡ length all → ((i : ℕ) → get_or all i 0 < 2 ^ 16) → IsCut ps rest count
cut_of ps rest all count full same long fit =
    record { are_full = full; counted = long ∙ sym (ap length same) ∙ length-append (joined ps) rest; fit = λ i. rw same (fit i) }

-- after a place of a full piece come its rest and the pieces after it
drop_at : (ps : List Piece) (rest : List ℕ) (q r : ℕ) (p : Piece) → AreFull ps → q < length ps → r < 512 → p ≡ get_or ps q p
    → drop (q * 512 + r) (joined ps ++ rest) ≡ drop r p ++ (joined (drop (suc q) ps) ++ rest)
drop_at [] rest q r p full within less is = absurd (omega arith)
drop_at (y ∷ ps) rest zero r p full within less is =
    search (rules, append_assoc y (joined ps) rest, drop-append-le r y (joined ps ++ rest) (omega (arith, full 0 y (omega arith))))
drop_at (y ∷ ps) rest (suc q) r p full within less is =
    let e : suc q * 512 + r ≡ length y + (q * 512 + r) = omega (arith, full 0 y (omega arith)) in
    ap (λ n. drop n ((y ++ joined ps) ++ rest)) e
    ∙ ap (drop (length y + (q * 512 + r))) (append_assoc y (joined ps) rest)
    ∙ drop-append-add y (joined ps ++ rest) (q * 512 + r)
    ∙ drop_at ps rest q r p (All-tail (λ p. length p ≡ 512) y ps full) (omega arith) less is

pub in_full : (ps : List Piece) (rest : List ℕ) (place : ℕ) (p : Piece) → AreFull ps → place / 512 < length ps → p ≡ get_or ps (place / 512) p
    → take (length (drop (place % 512) p)) (drop place (joined ps ++ rest)) ≡ drop (place % 512) p
in_full ps rest place p full within is =
    let q = place / 512 in
    let r = place % 512 in
    let e : place ≡ q * 512 + r = omega (arith, div-add-mod' place 512) in
    ap (λ n. take (length (drop r p)) (drop n (joined ps ++ rest))) e
    ∙ ap (take (length (drop r p))) (drop_at ps rest q r p full within (mod_below place 512 (omega arith)) is)
    ∙ take-append_seam (drop r p) (joined (drop (suc q) ps) ++ rest)

-- what lies in one piece is the prefix of what lies after the place
module _ (ps : List Piece) (rest : Piece) (all : List ℕ) (place : ℕ) (found : List ℕ) (full : AreFull ps) (view : joined ps ++ rest ≡ all) where
  pub prefix_in_full : (p : Piece) → place / 512 < length ps → p ≡ get_or ps (place / 512) p → found ≡ drop (place % 512) p → take (length found) (drop place all) ≡ found
  prefix_in_full p within is told = search (rules, in_full)

  pub prefix_in_rest : length ps ≤ place / 512 → found ≡ drop (place - length ps * 512) rest → take (length found) (drop place all) ≡ found
  prefix_in_rest past told = search (rules, joined_long ps full, drop-append-add, take_all)

  pub rest_long : place < length all → place < length ps * 512 + length rest
  rest_long within = omega (arith, joined_long ps full, ap length view, length-append (joined ps) rest)

  pub some_in_rest : length ps ≤ place / 512 → place < length all → found ≡ drop (place - length ps * 512) rest → 0 < length found
  some_in_rest past within told = omega (arith, rest_long within, div-add-mod' place 512, ap length told, length-drop (place - length ps * 512) rest)

-- a part of a list, cut once more
pub cut_more : (xs : List ℕ) (first n c : ℕ) → c ≤ n → take n (drop first xs) ≡ take c (drop first xs) ++ take (n - c) (drop (first + c) xs)
cut_more xs first n c few = search (rules, take-add c (n - c) (drop first xs), drop-drop c first xs)

pub prefix_of : (here rest : List ℕ) (c : ℕ) → take (length here) rest ≡ here → c ≤ length here → take c here ≡ take c rest
prefix_of here rest c is few = ap (take c) (sym is) ∙ take-take c (length here) rest few

-- lists that are put one after the other are compared one after the other
pub same_after : (xs ys more others : List ℕ) → length xs ≡ length ys → pointwise nat_eq xs ys ≡ true → pointwise nat_eq (xs ++ more) (ys ++ others) ≡ pointwise nat_eq more others
same_after [] [] more others long same = refl
same_after (x ∷ xs) (y ∷ ys) more others long same =
    let parts = and_parts (nat_eq x y) (pointwise nat_eq xs ys) same in rw parts.0 (same_after xs ys more others (omega arith) parts.1)
same_after _ _ more others long same = absurd (omega arith)

all_same : (xs : List ℕ) → pointwise nat_eq xs xs ≡ true
all_same [] = refl
all_same (x ∷ xs) = grind (arith, nat_tests, all_same xs)

-- places that are compared after others that are the same
module _ (one other : List ℕ) (place end next to : ℕ) (order : place ≤ to) (few : to ≤ next) (within : to ≤ end) (same : take (next - place) (drop place one) ≡ take (next - place) (drop place other)) where
  both : take (to - place) (drop place one) ≡ take (to - place) (drop place other)
  both = sym (take-take (to - place) (next - place) (drop place one) (omega arith)) ∙ ap (take (to - place)) same ∙ take-take (to - place) (next - place) (drop place other) (omega arith)

  parted : (xs : List ℕ) → take (end - place) (drop place xs) ≡ take (to - place) (drop place xs) ++ take (end - to) (drop to xs)
  parted xs =
      let e : place + (to - place) ≡ to = omega arith in
      let n : end - place - (to - place) ≡ end - to = omega arith in
      cut_more xs place (end - place) (to - place) (omega arith) ∙ (λ i. take (to - place) (drop place xs) ++ take (n i) (drop (e i) xs))

  pub skipped : pointwise nat_eq (take (end - to) (drop to one)) (take (end - to) (drop to other)) ≡ pointwise nat_eq (take (end - place) (drop place one)) (take (end - place) (drop place other))
  skipped =
      sym ((λ i. pointwise nat_eq (parted one i) (parted other i))
      ∙ ap (λ l. pointwise nat_eq (take (to - place) (drop place one) ++ take (end - to) (drop to one)) (l ++ take (end - to) (drop to other))) (sym both)
      ∙ same_after (take (to - place) (drop place one)) (take (to - place) (drop place one)) _ _ refl (all_same (take (to - place) (drop place one))))

not_both : (b : Bool) → (true ≡ b → ⊥) → b ≡ false
not_both true never = absurd (never refl)
not_both false never = refl

first_of : (xs : List ℕ) (place end : ℕ) → place < end → get_or (take (end - place) (drop place xs)) 0 0 ≡ get_or xs place 0
first_of xs place end before =
    let e : place + 0 ≡ place = omega arith in
    get_or-take (end - place) (drop place xs) 0 0 (omega arith) ∙ get_or-drop place xs 0 0 ∙ ap (λ (k : ℕ). get_or xs k 0) e

-- places of which the first one differs
pub apart_at : (one other : List ℕ) (place end : ℕ) → place < end → (get_or one place 0 ≡ get_or other place 0 → ⊥)
    → pointwise nat_eq (take (end - place) (drop place one)) (take (end - place) (drop place other)) ≡ false
apart_at one other place end before apart =
    not_both _ (λ same. apart (sym (first_of one place end before) ∙ ap (λ l. get_or l 0 0) (same_text (take (end - place) (drop place one)) (take (end - place) (drop place other)) same) ∙ first_of other place end before))

-- the district at a place
module _ (ps : List Piece) (rest : Piece) (all : List ℕ) (place : ℕ) (full : AreFull ps) (view : joined ps ++ rest ≡ all) where
  pub at_in_full : (p : Piece) → place / 512 < length ps → p ≡ get_or ps (place / 512) p → get_or p (place % 512) 0 ≡ get_or all place 0
  at_in_full p within is =
      let r = place % 512 in
      let e : place ≡ place / 512 * 512 + r = omega (arith, div-add-mod' place 512) in
      let f : place + 0 ≡ place = omega arith in
      let g : r + 0 ≡ r = omega arith in
      let less : r < 512 = mod_below place 512 (omega arith) in
      let long : length p ≡ 512 = ap length is ∙ full (place / 512) p within in
      let there : drop place all ≡ drop r p ++ (joined (drop (suc (place / 512)) ps) ++ rest)
      = ap (drop place) (sym view) ∙ ap (λ (k : ℕ). drop k (joined ps ++ rest)) e ∙ drop_at ps rest (place / 512) r p full within less is in
      sym (ap (λ (k : ℕ). get_or all k 0) (sym f) ∙ sym (get_or-drop place all 0 0) ∙ ap (λ l. get_or l 0 0) there
      ∙ get_or_append_left (drop r p) (joined (drop (suc (place / 512)) ps) ++ rest) 0 0 (omega (arith, length-drop r p)) ∙ get_or-drop r p 0 0 ∙ ap (λ (k : ℕ). get_or p k 0) g)

  pub at_in_rest : length ps ≤ place / 512 → get_or rest (place - length ps * 512) 0 ≡ get_or all place 0
  at_in_rest past = sym (ap (λ l. get_or l place 0) (sym view) ∙ get_or-append_right (joined ps) rest (length ps * 512) place 0 (joined_long ps full) (omega (arith, div-add-mod' place 512)))

  -- the districts up to the end of the piece
  pub to_its_end : (p : Piece) → place / 512 < length ps → p ≡ get_or ps (place / 512) p → take ((place / 512 + 1) * 512 - place) (drop place all) ≡ drop (place % 512) p
  to_its_end p within is =
      let r = place % 512 in
      let long : length p ≡ 512 = ap length is ∙ full (place / 512) p within in
      let e : (place / 512 + 1) * 512 - place ≡ length (drop r p) = omega (arith, div-add-mod' place 512, mod_below place 512 (omega arith), length-drop r p) in
      (λ i. take (e i) (drop place (sym view i))) ∙ in_full ps rest place p full within is

-- one place alone
pub one_there : (one other : List ℕ) (place : ℕ) → place < length one → place < length other → get_or one place 0 ≡ get_or other place 0 → take (place + 1 - place) (drop place one) ≡ take (place + 1 - place) (drop place other)
one_there one other place here there same = alone one here ∙ ap (λ (d : ℕ). d ∷ []) same ∙ sym (alone other there)
  where
    alone : (xs : List ℕ) → place < length xs → take (place + 1 - place) (drop place xs) ≡ get_or xs place 0 ∷ []
    alone xs within =
        let e : place + 1 - place ≡ 0 + 1 = omega arith in
        let f : place + 0 ≡ place = omega arith in
        ap (λ (k : ℕ). take k (drop place xs)) e ∙ take_more (drop place xs) 0 0 (omega (arith, length-drop place xs)) ∙ ap (λ (d : ℕ). d ∷ []) (get_or-drop place xs 0 0 ∙ ap (λ (k : ℕ). get_or xs k 0) f)

-- ---- parts that grow after
length_prefix : (here prefix : List ℕ) (k : ℕ) → prefix ≡ take k here → k ≤ length here → length prefix ≡ k
length_prefix here prefix k is few = omega (arith, ap length is, length-take k here)

pub put_more : (new to all here prefix : List ℕ) (place end k : ℕ) → new ≡ to ++ prefix → prefix ≡ take k here → take (length here) (drop place all) ≡ here → k ≤ length here → k ≤ end - place
    → new ++ take (end - (place + k)) (drop (place + k) all) ≡ to ++ take (end - place) (drop place all)
put_more new to all here prefix place end k put cut is few fits = search (rules, append_assoc, prefix_of here (drop place all) k is few, cut_more all place (end - place) k fits)

-- ---- lists that are made
module _ (ps new : List Piece) (p : Piece) (list after prefix : List ℕ) (place : ℕ) (put : new ≡ ps ++ p ∷ []) (is : p ≡ prefix) (cut : prefix ≡ take 512 after)
    (from : after ≡ drop (place * 512) list) (within : (place + 1) * 512 ≤ length list) where
  pub next_full : AreFull ps → AreFull new
  next_full full = full_push ps new p put full (omega (arith, ap length is, ap length cut, length-take 512 after, ap length from, length-drop (place * 512) list))

  pub next_same : joined ps ≡ take (place * 512) list → joined new ≡ take ((place + 1) * 512) list
  next_same same =
      let e : (place + 1) * 512 ≡ place * 512 + 512 = omega arith in
      joined_push ps new p put (take (place * 512) list) same ∙ ap (λ l. take (place * 512) list ++ l) (is ∙ cut ∙ ap (take 512) from)
      ∙ sym (ap (λ n. take n list) e ∙ take-add (place * 512) 512 list)

pub counted_all : (ps : List Piece) (rest : Piece) (count : ℕ) (all : List ℕ) → IsCut ps rest count → joined ps ++ rest ≡ all → count ≡ length all
counted_all ps rest count all cut view = cut.counted ∙ sym (length-append (joined ps) rest) ∙ ap length view

-- the number of districts after the full pieces
pub rest_counted : (ps : List Piece) (rest : Piece) (count many : ℕ) → IsCut ps rest count → many ≡ length ps → (many * 512 ≤ count) × (count - many * 512 ≡ length rest)
rest_counted ps rest count many cut long = (omega (arith, cut.counted, joined_long ps cut.are_full), omega (arith, cut.counted, joined_long ps cut.are_full))

-- a full piece ends within the list
pub ends_within : (ps : List Piece) (rest : Piece) (count q : ℕ) → IsCut ps rest count → q < length ps → (q + 1) * 512 ≤ count
ends_within ps rest count q cut within = omega (arith, cut.counted, joined_long ps cut.are_full)

-- full pieces and the one after them, when all are made
module _ (ps : List Piece) (rest : Piece) (list after : List ℕ) (place number : ℕ) (same : joined ps ≡ take (place * 512) list) (is : rest ≡ after)
    (from : after ≡ drop (number * 512) list) (all : place ≡ number) where
  pub whole : joined ps ++ rest ≡ list
  whole = ap (λ l. l ++ rest) same ∙ ap (λ n. take (n * 512) list ++ rest) all ∙ ap (λ l. take (number * 512) list ++ l) (is ∙ from) ∙ take-append-drop (number * 512) list
