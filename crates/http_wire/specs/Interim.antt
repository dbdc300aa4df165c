-- What no promise rests on, beside claim/Interim.antt.
use Rattle.std.specs.Prelude.{◌≡◌, ◌⊎◌, ℕ, List, [], ◌++◌}
use Rattle.http_wire.specs.claim.{Interim.{Interim, IsCutHead}, Prefix.IsIncomplete}

-- the writer failed within it, before the body: over a prefix of the input nothing more would be written
pub record IsCutInterim (input sent : List ℕ) : Type 0 where
  pub prefix : List ℕ
  pub unread : List ℕ
  pub read : input ≡ prefix ++ unread
  pub lacks : IsIncomplete prefix
  pub due : List ℕ
  pub interim : Interim prefix due
  pub unwritten : List ℕ
  pub written : due ≡ sent ++ unwritten

-- reading was cut short within a request
abbrev pub IsCutShort : List ℕ → List ℕ → Type 0
IsCutShort input sent = (IsIncomplete input × Interim input sent) ⊎ (IsCutHead input × (sent ≡ []))
