-- One thing is appended, and then the next.
use Rattle.{std.proofs.Common.{◌≡◌, ◌++◌, List, ℕ, append_assoc, arith}, chunk_table.specs.Appended.AppendsNext, desk_store_rows.specs.claim.Rows.KeyMap}

pub more_on : {X : Type 0} (says : KeyMap → X → Type 0) (first next both : X → List ℕ) (p q r : List ℕ) (m : KeyMap)
    → ((x : X) → says m x → first x ++ next x ≡ both x) → AppendsNext says first p q m → AppendsNext says next q r m → AppendsNext says both p r m
more_on says first next both p q r m joined one other x said = search (arith, other, one, append_assoc, first, next, joined)
