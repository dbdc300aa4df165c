-- Entries as they lie in bytes.
use Rattle.std.specs.Prelude.{◌≡◌, ◌≤◌, ◌+◌, ◌-◌, ℕ, List, ◌++◌, length, take, drop, Option, IfSome, IfNone}
use Rattle.page_btree_node.specs.{Entries.{key_length, value_length, first_of}, claim.Entries.{Entry, IsEntry, entry_bytes, entry_size}, declared.entry.Bounds.Bounds}

-- the entry at a place lies in the page: its value begins at one place and ends at another
pub record LiesAt (page : List ℕ) (at value end : ℕ) : Type 0 where
  pub value_is : value ≡ at + 3 + key_length (drop at page)
  pub end_is : end ≡ value + value_length (drop at page)
  pub within : end ≤ 4096
  pub entry : IsEntry (first_of (drop at page))

-- it doesn't
abbrev pub LiesNot : List ℕ → ℕ → Type 0
LiesNot page at = at + 3 + key_length (drop at page) + value_length (drop at page) ≤ 4096
    → key_length (drop at page) ≤ 72 → value_length (drop at page) ≤ 1024 → ⊥

-- what is told of the entry at a place: where it lies, or that it doesn't
pub record TellsBounds (page : List ℕ) (at : ℕ) (result : Option Bounds) : Type 0 where
  pub some : IfSome result (λ b. LiesAt page at b.value b.end)
  pub none : IfNone result (LiesNot page at)

-- two places, in their order, in so many
pub record IsByteRange (from until size : ℕ) : Type 0 where
  pub order : from ≤ until
  pub within : until ≤ size

-- the bytes between the first two have room from the third on
pub record MayMove (from until onto size : ℕ) : Type 0 where
  pub order : from ≤ until
  pub within : until ≤ size
  pub room : onto + (until - from) ≤ size

-- an entry has room from a place on
pub record HasRoomFor (e : Entry) (at size : ℕ) : Type 0 where
  pub entry : IsEntry e
  pub room : at + 3 + length e.0 + length e.1 ≤ size

-- bytes with an entry written at a place
abbrev pub with_entry : List ℕ → ℕ → Entry → List ℕ
with_entry bytes at e = take at bytes ++ (entry_bytes e ++ drop (at + entry_size e) bytes)
