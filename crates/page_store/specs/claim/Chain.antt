-- The meta page and the free pages. Page 0 begins with three words: the root, the first free page, and how many pages are
-- free. Each free page begins with the number of the next one, and has no bytes but these.
use Rattle.std.{specs.Prelude.{◌≡◌, ◌⊎◌, ◌<◌, ◌&&◌, ℕ, Bool, true, List, [], ◌∷◌, cond}, proofs.Common.{zero, suc, nat_eq}}
use Rattle.{gate_journal.specs.claim.Store.word, sector_device.specs.claim.Disk.Image}

-- so many words after a page's first one are zero
abbrev pub are_zero : List ℕ → ℕ → Bool
are_zero page zero = true
are_zero page (suc k) = nat_eq (word page (suc k)) 0 && are_zero page k

-- the page has no bytes but those of a link
unfoldable pub is_blank : List ℕ → Bool
is_blank page = are_zero page 1023

-- count pages from the first one on, each linked to the next. One that isn't blank counts as page 0, which is never free.
abbrev pub chain : Image → ℕ → ℕ → List ℕ
chain P first zero = []
chain P first (suc count) = cond (is_blank (P first)) first 0 ∷ chain P (word (P first) 0) count

-- the root that pages name, and their free pages
abbrev pub root_in : Image → ℕ
root_in P = word (P 0) 0

abbrev pub free_in : Image → List ℕ
free_in P = chain P (word (P 0) 1) (word (P 0) 2)

abbrev pub IsIn : ℕ → List ℕ → Type 0
IsIn q [] = ⊥
IsIn q (p ∷ ps) = (q ≡ p) ⊎ IsIn q ps

-- each is one of n pages other than page 0, and none stands twice
abbrev pub AreFree : ℕ → List ℕ → Type 0
AreFree n [] = Unit {0}
AreFree n (q ∷ qs) = (0 < q) × (q < n) × (IsIn q qs → ⊥) × AreFree n qs

-- the pages hold a root, and free pages
pub record IsPages (n : ℕ) (P : Image) : Type 0 where
  pub root : root_in P < n
  pub first : word (P 0) 1 < n
  pub count : word (P 0) 2 < n
  pub free : AreFree n (free_in P)
