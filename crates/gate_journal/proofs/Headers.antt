-- What a header says of its store.
use Rattle.std.proofs.{Common.{rules, ◌≡◌, ◌≢◌, ◌<◌, ◌+◌, ◌*◌, ◌^◌, ℕ, true, List, [], ◌∷◌, length, get_or, refl, sym, ap, ◌∙◌, arith}, lemmas.{Bool.eq-eqb, Grind.common_steps}}
use Rattle.{std.proofs.lemmas.{List.{length-set, length-replicate, get_or-set_other}, Nat.from_be_bytes-to_be_bytes_4}, gate_journal.specs.{Recovery.HasRoom, Store.IsStoreOf}}
use Rattle.{gate_journal.specs.claim.Store.{word, put_word, header_of, IsStore}, sector_device.specs.claim.Disk.Image}
use lib.{Dec.eqb, Pointwise.pointwise}

length_put : (s : List ℕ) (k n : ℕ) → length (put_word s k n) ≡ length s
length_put s k n = simp length-set

put_same : (s : List ℕ) (k n : ℕ) → 4 * k + 3 < length s → n < 2 ^ 32 → word (put_word s k n) k ≡ n
put_same s k n lt small = grind (arith, common_steps, from_be_bytes-to_be_bytes_4 n small)

byte_other : (s : List ℕ) (k n i : ℕ) → i ≢ 4 * k → i ≢ 4 * k + 1 → i ≢ 4 * k + 2 → i ≢ 4 * k + 3 → get_or (put_word s k n) i 0 ≡ get_or s i 0
byte_other s k n i o0 o1 o2 o3 = search get_or-set_other

put_other : (s : List ℕ) (j k n : ℕ) → j ≢ k → word (put_word s k n) j ≡ word s j
put_other s j k n off = search (rules, byte_other)

pub header_journal : (J n : ℕ) → J < 2 ^ 32 → word (header_of J n) 3 ≡ J
unfolding header_of
header_journal J n small = search (rules, length_put, length-replicate, put_other, put_same)

pub same_bytes : (xs : List ℕ) → pointwise eqb xs xs ≡ true
same_bytes [] = refl
same_bytes (x ∷ xs) = rw (eq-eqb x x refl) (same_bytes xs)

-- the word in the header of a store is its number of journal pages
pub journal_is : (sectors : ℕ) (c : Image) (s : List ℕ) (is : IsStoreOf sectors c) → s ≡ c 0 → word s 3 ≡ is.J
journal_is sectors c s is same = ap (λ (x : List ℕ). word x 3) (same ∙ is.store.header) ∙ header_journal is.J is.n (let most = is.store.most_journal in omega arith)

-- a store of so many sectors has the layout that its header names
pub is_laid_out : (sectors : ℕ) (c : Image) (J n : ℕ) → HasRoom sectors J n → c 0 ≡ header_of J n → IsStoreOf sectors c → IsStore J n c
is_laid_out sectors c J n room layout is = search (arith, header_journal J n (omega arith), journal_is sectors c (c 0) is refl)

-- a header names one number of journal pages
pub same_journal : (J n K m : ℕ) → J < 2 ^ 32 → K < 2 ^ 32 → header_of J n ≡ header_of K m → J ≡ K
same_journal J n K m small less same = sym (header_journal J n small) ∙ ap (λ (x : List ℕ). word x 3) same ∙ header_journal K m less
