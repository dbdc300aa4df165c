-- Rows by the bytes of their keys.
use Rattle.{std.proofs.Common.{◌≡◌, ℕ, List, sym, subst, ◌∙◌}, desk_store_rows.{specs.{RowKeys.IsKey, claim.Keys.{RowKey, key_of, Fits}}, proofs.RowLaws.keys_differ}}
use Rattle.store_verification_rows.specs.Wholes.{IsWhole, SaysSo}

-- a row with a key is one
pub at_row : (P : RowKey → Type 0) (key : List ℕ) (row : RowKey) → IsKey row key → P row → (other : RowKey) → Fits other → key ≡ key_of other → P other
at_row P key row of has other fits is = subst P (keys_differ row other of.fits fits (sym of.is ∙ is)) has

pub whole_by : (key value : List ℕ) (row : RowKey) → IsKey row key → SaysSo row value → IsWhole (key, value)
whole_by key value row of says = record { past = λ past. record { row = row; fits = of.fits; is = of.is }; says = at_row (λ r. SaysSo r value) key row of says }
