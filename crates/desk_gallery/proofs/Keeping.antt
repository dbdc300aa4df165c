-- The steps keep the rule.
use Rattle.std.proofs.Common.{◌≡◌, ◌≢◌, ℕ, zero, suc, ◌<◌, ◌==◌, true, false, List, [], ◌∷◌, ◌++◌, length, slice_set, None, refl, ap, sym, ◌∙◌, subst, arith, inl, inr, get_or-set_other, length-set}
use Rattle.{std.proofs.lemmas.{Bool.cases_eq, Grind.get_or-set_at, List.{append-nil, get_or_append_left, Elements.{All-push, All-weaker}}}, desk_gallery.proofs.Chaining.rest_none}
use Rattle.desk_gallery.specs.{Rules.{IsKept, NoneBy, Makes, Looks, Adds}, declared.book.LogEntry.LogEntry}
use Rattle.logbook.specs.Pages.{Cell, cell, Nib, no_nib, may_write, keeps, gives, adds, step, Moves}
use prog.Atomic.{either}

-- what is asked for where nothing is added
abbrev pub no_entry : LogEntry
no_entry = record { what = None; by = 0; next = 0 }

abbrev pub shown : List LogEntry → List LogEntry
shown log = []

abbrev pub moved : List LogEntry → List LogEntry → ℕ → Type 0
moved xs ys n = Unit {0}

-- cells at home
within : (cs : List Cell) (k : ℕ) → (cell cs k).1 ≡ true → k < length cs
within [] k is = absurd (cc is)
within (c ∷ cs) zero is = omega arith
within (c ∷ cs) (suc k) is = let r : k < length cs = within cs k is in omega (arith, r)

home_set : (cs : List Cell) (i k n : ℕ) → (cell cs k).1 ≡ true → (cell (slice_set cs i (n, true)) k).1 ≡ true
home_set cs i k n is = elim (cases_eq k i) [
  | inl same ↦ ap (λ (c : Cell). c.1) (get_or-set_at cs i k (n, true) (0, false) same (omega (arith, within cs k is, same)))
  | inr other ↦ ap (λ (c : Cell). c.1) (get_or-set_other cs i k (n, true) (0, false) other) ∙ is
]

home_more : (cs more : List Cell) (k : ℕ) → (cell cs k).1 ≡ true → (cell (cs ++ more) k).1 ≡ true
home_more cs more k is = ap (λ (c : Cell). c.1) (get_or_append_left cs more (0, false) k (within cs k is)) ∙ is

kept_set : (cs : List Cell) (log : List LogEntry) (i n : ℕ) → IsKept cs log → IsKept (slice_set cs i (n, true)) log
kept_set cs log i n kept = (home_set cs i 0 n kept.0, All-weaker (λ e. (cell cs e.by).1 ≡ true) (λ e. (cell (slice_set cs i (n, true)) e.by).1 ≡ true) (λ e h. home_set cs i e.by n h) log kept.1)

kept_more : (cs more : List Cell) (log : List LogEntry) → IsKept cs log → IsKept (cs ++ more) log
kept_more cs more log kept = (home_more cs more 0 kept.0, All-weaker (λ e. (cell cs e.by).1 ≡ true) (λ e. (cell (cs ++ more) e.by).1 ≡ true) (λ e h. home_more cs more e.by h) log kept.1)

-- a key whose pen is held was not used up
not_used : (cs : List Cell) (log : List LogEntry) (k : ℕ) → IsKept cs log → (cell cs k).1 ≡ false → NoneBy k log
not_used cs log k kept off = All-weaker (λ e. (cell cs e.by).1 ≡ true) (λ e. e.by ≢ k) (λ e h same. let both : true ≡ false = sym h ∙ ap (λ (n : ℕ). (cell cs n).1) same ∙ off in absurd (cc both)) log kept.1

same_log : (log : List LogEntry) (cs : List Cell) → IsKept cs log → IsKept cs (log ++ [])
same_log log cs kept = subst (λ (l : List LogEntry). IsKept cs l) (sym (append-nil log)) kept

pub make_moves : (v : List LogEntry) (a : LogEntry) → Moves IsKept shown moved 0 (v, (no_nib, None)) (λ n. either (n == 0) 0 n) (Makes (step 0 0 0 a) (v, (no_nib, None)))
make_moves v a cs log kept pre away = (
  within cs 0 kept.0,
  kept.0,
  (adds, [], None, tt, same_log log _ (kept_more _ ((0, false) ∷ []) log (kept_set cs log 0 _ kept)), inl (refl, refl), refl),
)

pub look_moves : (v : List LogEntry) (p : Nib) (a : LogEntry) → p.right ≡ may_write → Moves IsKept shown moved 0 (v, (p, None)) (λ n. either (n == 0) 0 n) (Looks (step 0 0 0 a) (v, (p, None)))
look_moves v p a right cs log kept pre away = (
  within cs 0 kept.0,
  kept.0,
  (
    keeps,
    [],
    None,
    tt,
    same_log log _ (kept_set cs log 0 _ kept),
    inl (refl, refl),
    (refl, subst (λ (l : List LogEntry). NoneBy p.key l) (sym (append-nil log)) (not_used cs log p.key kept (away right).1)),
  ),
)

pub add_moves : (v : List LogEntry) (p : Nib) (a : LogEntry) → p.right ≡ may_write → a.by ≡ p.key → Moves IsKept shown moved 0 (v, (p, None)) (λ n. either (n == 0) 0 n) (Adds (step 0 0 0 a) (v, (p, None)))
add_moves v p a right same cs log kept pre away =
    let n : ℕ = either ((cell cs 0).0 == 0) 0 (cell cs 0).0 in
    let one : List Cell = slice_set cs 0 (n, true) in
    let two : List Cell = slice_set one p.key (p.value, true) in
    let so_far : IsKept two log = kept_set one log p.key p.value (kept_set cs log 0 n kept) in
    let here : (cell two a.by).1 ≡ true = ap (λ (c : Cell). c.1) (get_or-set_at one p.key a.by (p.value, true) (0, false) same (omega (arith, (away right).0, length-set cs 0 (n, true)))) in
    let all = All-push (λ e. (cell two e.by).1 ≡ true) log a so_far.1 here in
    let none : NoneBy p.key log = not_used cs log p.key kept (away right).1 in (
      within cs 0 kept.0,
      kept.0,
      (
        gives,
        a ∷ [],
        None,
        right,
        (so_far.0, all),
        inl (refl, refl),
        (
          pre.0,
          ap (λ (l : List LogEntry). l ++ a ∷ []) (sym pre.1),
          rest_none p.key v pre.0 (subst (λ (l : List LogEntry). NoneBy p.key l) (sym pre.1) none),
        ),
      ),
    )
