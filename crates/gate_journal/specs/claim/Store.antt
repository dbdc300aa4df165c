-- What the sectors of a store stand for. Numbers are big-endian words of four bytes.
--   sector 0            the header
--   sector 1            the gate: its first byte is 0xA5 where it is open; nothing else of it is read
--   2 ..                the list: how many pages a commit writes, and their numbers
--   first_copy J ..     the copies of those pages, in the order of the list
--   home J ..           the pages
use Rattle.std.specs.{Int.{w32, from_be_bytes, to_be_bytes}, Prelude.{◌≡◌, ◌≤◌, ◌<◌, ◌+◌, ◌*◌, ◌/◌, ◌%◌, ℕ, List, [], ◌∷◌, cond, replicate}}
use Rattle.{std.proofs.Common.{get_or, set, zero, suc, nat_eq}, sector_device.specs.claim.Disk.Image}

-- the number in the k-th four bytes of a sector
abbrev pub word : List ℕ → ℕ → ℕ
word sector k = from_be_bytes w32 (get_or sector (4 * k) 0 ∷ get_or sector (4 * k + 1) 0
    ∷ get_or sector (4 * k + 2) 0 ∷ get_or sector (4 * k + 3) 0 ∷ [])

-- the sector with a number in its k-th four bytes
abbrev pub put_word : List ℕ → ℕ → ℕ → List ℕ
put_word sector k n = set (set (set (set sector (4 * k) (get_or (to_be_bytes w32 n) 0 0)) (4 * k + 1) (get_or (to_be_bytes w32 n) 1 0))
    (4 * k + 2) (get_or (to_be_bytes w32 n) 2 0)) (4 * k + 3) (get_or (to_be_bytes w32 n) 3 0)

-- the header of a store of so many pages with J journal pages: PLANDESK, version 1, J, the number of pages, and zeros
unfoldable pub header_of : ℕ → ℕ → List ℕ
header_of J pages = put_word (put_word (put_word (put_word (put_word (replicate 4096 0) 0 0x504c414e) 1 0x4445534b) 2 1) 3 J) 4 pages

-- the words of the list, which begins at sector 2
unfoldable pub list_word : Image → ℕ → ℕ
list_word c k = word (c (2 + k / 1024)) (k % 1024)

-- with J journal pages: where the copies begin, and the pages
abbrev pub first_copy : ℕ → ℕ
first_copy J = 2 + (J + 1024) / 1024

abbrev pub home : ℕ → ℕ
home J = first_copy J + J

abbrev pub gate : Image → ℕ
gate c = get_or (c 1) 0 0

-- n pages of the list from the k-th on, each with its copy
abbrev pub copies_from : Image → ℕ → ℕ → ℕ → List (ℕ × List ℕ)
copies_from c at k zero = []
copies_from c at k (suc n) = (list_word c (k + 1), c (at + k)) ∷ copies_from c at (k + 1) n

unfoldable pub copies : ℕ → Image → List (ℕ × List ℕ)
copies J c = copies_from c (first_copy J) 0 (list_word c 0)

-- one page written, and several, the first of them first
abbrev pub put : ℕ × List ℕ → Image → Image
put w pages p = cond (nat_eq p w.0) w.1 (pages p)

abbrev pub overlay : List (ℕ × List ℕ) → Image → Image
overlay [] pages = pages
overlay (w ∷ ws) pages = overlay ws (put w pages)

abbrev pub home_pages : ℕ → Image → Image
home_pages J c p = c (home J + p)

-- the home pages, overlaid by the copies where the gate is open
unfoldable pub pages : ℕ → Image → Image
pages J c = overlay (cond (nat_eq (gate c) 165) (copies J c) []) (home_pages J c)

-- the list is one that a commit may have written
pub record IsValid (J n : ℕ) (c : Image) : Type 0 where
  pub count : list_word c 0 ≤ J
  pub each : (k : ℕ) → k < list_word c 0 → list_word c (k + 1) < n

-- the image is one of a store of n pages with J journal pages
pub record IsStore (J n : ℕ) (c : Image) : Type 0 where
  pub least_journal : 256 ≤ J
  pub most_journal : J ≤ 65536
  pub least_pages : 64 ≤ n
  pub header : c 0 ≡ header_of J n
  pub list : gate c ≡ 165 → IsValid J n c

-- the image is one of a store, and stands for these pages
pub record Opens (J n : ℕ) (P : Image) (c : Image) : Type 0 where
  pub store : IsStore J n c
  pub each : (p : ℕ) → pages J c p ≡ P p
