-- What holds of the rows of revisions.
use Rattle.std.specs.Prelude.{◌≡◌, ◌<◌, ◌≤◌, ◌*◌, ◌^◌, ℕ, List, length, All}
use Rattle.desk_store_rows.specs.{NameRows.{name_rows, IsFreeRevision}, Rows.SameTag, claim.{Puts.put_rows, RevisionRows.{NamesChunks, HasRevision}, Rows.KeyMap}}

-- a revision whose rows are put under a free place names its chunks, every other one of this plan and of others stays, and so do
-- the rows of every other tag
pub record IsNamed (m : KeyMap) (plan revision : ℕ) (numbers : List ℕ) : Type 0 where
  pub there : All (λ n. n < 2 ^ 64) numbers → IsFreeRevision m plan revision
      → NamesChunks (put_rows m (name_rows plan revision numbers)) plan revision numbers
  pub others : (other later : ℕ) (kept : List ℕ) → other < 2 ^ 64 → later < 2 ^ 32 → (other ≡ plan → later ≡ revision → ⊥)
      → NamesChunks m other later kept → NamesChunks (put_rows m (name_rows plan revision numbers)) other later kept
  pub revisions : (other later : ℕ) (counties : List (List ℕ)) → other < 2 ^ 64 → later < 2 ^ 32 → (other ≡ plan → later ≡ revision → ⊥)
      → HasRevision m other later counties → HasRevision (put_rows m (name_rows plan revision numbers)) other later counties
  pub tags : (tag : ℕ) → (tag ≡ 82 → ⊥) → SameTag tag m (put_rows m (name_rows plan revision numbers))

abbrev pub NamesArePut : Type 0
NamesArePut = (m : KeyMap) (plan revision : ℕ) (numbers : List ℕ) → plan < 2 ^ 64
    → revision < 2 ^ 32 → length numbers ≤ 128 * 2 ^ 8 → IsNamed m plan revision numbers
