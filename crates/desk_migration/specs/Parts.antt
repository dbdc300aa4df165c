-- Parts of revisions, and the key from which they are gone over.
use Rattle.std.specs.{List.starts_with, Prelude.{◌≡◌, ℕ, Bool, true, false, List, nat_eq}}
use Rattle.{btree_scan.specs.declared.rows.Row.Row, desk_migration.specs.claim.Holding.AreHeldTo, desk_store_opening.specs.tidy.Rows.{IsFirst, NoneFrom}}
use Rattle.desk_store_rows.specs.{Keys.parts_prefix, claim.{Keys.{key_of, Fits, part}, Lists.{AreChunks, chunks_bytes}, Rows.KeyMap, Tidy.Tidy}}

-- a key under which parts of revisions stand
abbrev pub IsUnderParts : List ℕ → Type 0
IsUnderParts key = starts_with nat_eq key parts_prefix ≡ true

-- the row is the first one of a part whose key isn't below this one, or there is none
abbrev pub IsPartFrom : Bool → List ℕ → Row → KeyMap → Type 0
IsPartFrom true from row m = IsFirst true from row m × IsUnderParts row.key
IsPartFrom false from row m = NoneFrom from parts_prefix m

-- the row is that of a part of a revision
pub record IsPartRow (row : Row) : Type 0 where
  pub plan : ℕ
  pub revision : ℕ
  pub index : ℕ
  pub fits : Fits (part plan revision index)
  pub key_is : row.key ≡ key_of (part plan revision index)
  pub numbers : List ℕ
  pub chunks : AreChunks numbers
  pub value_is : row.value ≡ chunks_bytes numbers

-- ---- going on from a key to another one
-- Migrations go on from a key: each part below it names held chunks alone.
pub record IsUnderWay (from : List ℕ) (m : KeyMap) : Type 0 where
  pub tidy : Tidy m
  pub done : AreHeldTo from m
