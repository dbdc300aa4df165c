-- Chains of entries.
use Rattle.std.proofs.{Common.{Option, ◌≡◌, ◌≢◌, ℕ, ◌==◌, false, List, [], ◌∷◌, ◌++◌, inl, inr, refl, sym, ap, ◌∙◌, subst, append_assoc}, lemmas.Bool.{cases_Bool, eq-eqb, ne_eqb}}
use Rattle.{std.proofs.lemmas.List.{append-nil, Elements.{All-head, All-tail}}, desk_gallery.specs.{Rules.{key_after, chained, NoneBy}, declared.book.LogEntry.LogEntry}}
use Rattle.desk_model.specs.declared.command.Command.{Command}
use mathlib.Core.List.{IsPrefix}

-- a chain goes on after a beginning
pub chained_on : (k : ℕ) (xs ys : List LogEntry) → chained k (xs ++ ys) ≡ chained k xs ++ chained (key_after k xs) ys
chained_on k [] ys = refl
chained_on k (e ∷ xs) ys = elim (cases_Bool (e.by == k)) [
  | inl on ↦ rw on (ap (λ (l : List (Option Command)). e.what ∷ l) (chained_on e.next xs ys))
  | inr off ↦ rw off (chained_on k xs ys)
]

pub key_on : (k : ℕ) (xs ys : List LogEntry) → key_after k (xs ++ ys) ≡ key_after (key_after k xs) ys
key_on k [] ys = refl
key_on k (e ∷ xs) ys = elim (cases_Bool (e.by == k)) [
  | inl on ↦ rw on (key_on e.next xs ys)
  | inr off ↦ rw off (key_on k xs ys)
]

-- where no entry uses up the key, none follows
not_by : (k : ℕ) (e : LogEntry) (xs : List LogEntry) → NoneBy k (e ∷ xs) → (e.by == k) ≡ false
not_by k e xs none = ne_eqb e.by k (All-head (λ e. e.by ≢ k) e xs none)

pub chained_none : (k : ℕ) (xs : List LogEntry) → NoneBy k xs → chained k xs ≡ []
chained_none k [] none = refl
chained_none k (e ∷ xs) none = rw (not_by k e xs none) (chained_none k xs (All-tail (λ e. e.by ≢ k) e xs none))

pub key_none : (k : ℕ) (xs : List LogEntry) → NoneBy k xs → key_after k xs ≡ k
key_none k [] none = refl
key_none k (e ∷ xs) none = rw (not_by k e xs none) (key_none k xs (All-tail (λ e. e.by ≢ k) e xs none))

pub rest_none : (k : ℕ) (xs ys : List LogEntry) → NoneBy k (xs ++ ys) → NoneBy k ys
rest_none k [] ys none = none
rest_none k (e ∷ xs) ys none = rest_none k xs ys (All-tail (λ e. e.by ≢ k) e (xs ++ ys) none)

-- of one log, whoever has seen some of it knows no more than who has the key that is next
whole_chained : (k : ℕ) (xs zs : List LogEntry) → IsPrefix xs zs → NoneBy (key_after k xs) zs → chained k zs ≡ chained k xs
whole_chained k xs zs p none =
    let later : NoneBy (key_after k xs) p.0 = rest_none (key_after k xs) xs p.0 (subst (λ (l : List LogEntry). NoneBy (key_after k xs) l) (sym p.1) none) in
    sym (ap (chained k) p.1) ∙ chained_on k xs p.0 ∙ ap (λ (l : List (Option Command)). chained k xs ++ l) (chained_none (key_after k xs) p.0 later) ∙ append-nil (chained k xs)

pub begins_whole : (k : ℕ) (xs ys zs : List LogEntry) → IsPrefix xs zs → IsPrefix ys zs → NoneBy (key_after k xs) zs → IsPrefix (chained k ys) (chained k xs)
begins_whole k xs ys zs p q none =
    subst (λ (l : List (Option Command)). IsPrefix (chained k ys) l) (whole_chained k xs zs p none) (chained (key_after k ys) q.0, sym (chained_on k ys q.0) ∙ ap (chained k) q.1)

-- an entry that uses up the key that is next
one_more : (k : ℕ) (e : LogEntry) → e.by ≡ k → chained k (e ∷ []) ≡ e.what ∷ []
one_more k e same = rw (eq-eqb e.by k same) refl

one_key : (k : ℕ) (e : LogEntry) → e.by ≡ k → key_after k (e ∷ []) ≡ e.next
one_key k e same = rw (eq-eqb e.by k same) refl

pub chained_more : (k : ℕ) (xs rest : List LogEntry) (e : LogEntry) → e.by ≡ key_after k xs → NoneBy (key_after k xs) rest → chained k (xs ++ rest ++ e ∷ []) ≡ chained k xs ++ e.what ∷ []
chained_more k xs rest e same none = search (one_more, key_none, chained_on, chained_none, append_assoc)

pub key_more : (k : ℕ) (xs rest : List LogEntry) (e : LogEntry) → e.by ≡ key_after k xs → NoneBy (key_after k xs) rest → key_after k (xs ++ rest ++ e ∷ []) ≡ e.next
key_more k xs rest e same none = search (append_assoc, key_on, one_key, key_none)
