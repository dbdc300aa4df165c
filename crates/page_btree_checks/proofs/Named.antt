-- Pages that are named one after the other.
use Rattle.std.proofs.Common.{rules, ◌≡◌, ◌⊎◌, ◌<◌, ◌+◌, ℕ, zero, suc, Bool, true, false, List, [], ◌∷◌, length, get_or, set, replicate, refl, arith}
use Rattle.page_btree_checks.specs.{Marks.unseen, Owners.{CanName, AreNamed}, declared.marks.Marks.Marks}

pub unseen_set : (seen : List Bool) (p : ℕ) → p < length seen → get_or seen p false ≡ false → unseen (set seen p true) + 1 ≡ unseen seen
unseen_set [] p lt off = absurd (omega arith)
unseen_set (true ∷ seen) zero lt off = cc
unseen_set (false ∷ seen) zero lt off = refl
unseen_set (true ∷ seen) (suc p) lt off = unseen_set seen p (omega arith) off
unseen_set (false ∷ seen) (suc p) lt off = let rest = unseen_set seen p (omega arith) off in omega arith

pub unseen_some : (seen : List Bool) (p : ℕ) → p < length seen → get_or seen p false ≡ false → 0 < unseen seen
unseen_some seen p lt off = let one = unseen_set seen p lt off in omega arith

pub unseen_none : (n : ℕ) → unseen (replicate n false) ≡ n
unseen_none zero = refl
unseen_none (suc n) = let rest = unseen_none n in omega arith

pub all_seen : (seen : List Bool) → ((p : ℕ) → p < length seen → get_or seen p false ≡ true) → unseen seen ≡ 0
all_seen [] all = refl
all_seen (true ∷ seen) all = all_seen seen (λ p lt. all (suc p) (omega arith))
all_seen (false ∷ seen) all = absurd (let here : false ≡ true = all 0 (omega arith) in cc)

pub named_more : (A B : ℕ → Type 0) (a b : ℕ) (old mid new : Marks) → AreNamed A a old mid → AreNamed B b mid new → AreNamed (λ q. A q ⊎ B q) (a + b) old new
named_more A B a b old mid new f s = search rules

pub named_as : (A B : ℕ → Type 0) (a b : ℕ) (old new : Marks) → ((q : ℕ) → A q → B q) → ((q : ℕ) → B q → A q) → a ≡ b → AreNamed A a old new → AreNamed B b old new
named_as A B a b old new to back same f = search rules

-- another page may be named as before
pub can_still : (A : ℕ → Type 0) (n q : ℕ) (old new : Marks) → AreNamed A n old new → (A q → ⊥) → CanName q old → CanName q new
can_still A n q old new named off can = search rules
