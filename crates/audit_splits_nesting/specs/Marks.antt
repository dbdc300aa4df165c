-- Marks: what is noted of the values of groups of blocks, block by block. A group has parts, told by numbers that never fall along the
-- blocks.
use Rattle.std.specs.Prelude.{◌≡◌, ◌≢◌, ℕ, ◌<◌, ◌≤◌, ◌==◌, if◌then◌else◌, List, length, get_or}
use Rattle.audit_splits_nesting.specs.declared.mark.GroupMark.{GroupMark, TheVariants.{Unseen, Seen, Divided}}

abbrev pub mark_at : List GroupMark → ℕ → GroupMark
mark_at marks k = get_or marks k Unseen

-- marks of groups of which no block was seen
pub record AreUnseen (wide : ℕ) (marks : List GroupMark) : Type 0 where
  pub long : length marks ≡ wide
  pub unseen : (k : ℕ) → k < wide → mark_at marks k ≡ Unseen

abbrev pub value_at : List ℕ → ℕ → ℕ
value_at plan place = get_or plan place 0

-- one part alone
abbrev pub one_part : ℕ → ℕ
one_part place = 0

-- the mark once a block more is seen, of this part and with this value
abbrev pub marked : GroupMark → ℕ → ℕ → GroupMark
marked Unseen part value = Seen part value
marked (Seen p v) part value = if p == part then (if v == value then Seen p v else Divided) else Seen part value
marked Divided part value = Divided

-- the first blocks of a group: the last part that was seen, and its value; no part has two values
pub record IsWhole (Holds : ℕ → Type 0) (part value : ℕ → ℕ) (count p v : ℕ) : Type 0 where
  pub place : ℕ
  pub early : place < count
  pub holds : Holds place
  pub part_is : part place ≡ p
  pub value_is : value place ≡ v
  pub latest : (i : ℕ) → i < count → Holds i → part i ≤ p
  pub whole : (i j : ℕ) → i < count → j < count → Holds i → Holds j → part i ≡ part j → value i ≡ value j

-- two blocks of one part have different values
pub record IsSplit (Holds : ℕ → Type 0) (part value : ℕ → ℕ) : Type 0 where
  pub one : ℕ
  pub other : ℕ
  pub one_holds : Holds one
  pub other_holds : Holds other
  pub part_is : part one ≡ part other
  pub differ : value one ≢ value other

abbrev pub IsMark : (ℕ → Type 0) → (ℕ → ℕ) → (ℕ → ℕ) → ℕ → GroupMark → Type 0
IsMark Holds part value count Unseen = (i : ℕ) → i < count → ¬ Holds i
IsMark Holds part value count (Seen p v) = IsWhole Holds part value count p v
IsMark Holds part value count Divided = IsSplit Holds part value

-- the marks of the groups from 0 on, by the first blocks
pub record AreMarks (Holds : ℕ → ℕ → Type 0) (part value : ℕ → ℕ) (count wide : ℕ) (marks : List GroupMark) : Type 0 where
  pub long : length marks ≡ wide
  pub each : (k : ℕ) → k < wide → IsMark (Holds k) part value count (mark_at marks k)

abbrev pub IsDividedAt : List GroupMark → ℕ → Type 0
IsDividedAt marks k = mark_at marks k ≡ Divided

-- a district's blocks have different values, or the value 0
abbrev pub IsUnnested : GroupMark → Type 0
IsUnnested Unseen = ⊥
IsUnnested (Seen p v) = v ≡ 0
IsUnnested Divided = Unit {0}

-- the same of one of the districts from 1 on
pub record IsUnnestedAt (marks : List GroupMark) (d : ℕ) : Type 0 where
  pub from_first : 1 ≤ d
  pub unnested : IsUnnested (mark_at marks d)
