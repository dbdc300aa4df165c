-- By how many workers a plan was audited.
use Rattle.std.specs.Prelude.{ℕ, ◌<◌, Bool, true, false}
use Rattle.{audit_report.specs.Share.IsSharedOut, command_output.specs.declared.status.Status.{Status, TheVariants.{Done, Broken, Usage, Refused, Store, Memory, Stream}}}

-- more than one worker share the audit of n districts out; one does all alone
abbrev pub IsDoneBy : {C : Type 0} → (C → ℕ → ℕ → Type 0) → C → (workers n : ℕ) → Type 0
IsDoneBy begins crew workers n = 1 < workers → IsSharedOut begins crew workers n

-- the statuses that go with a printed report
abbrev pub is_of_report : Status → Bool
is_of_report Done = true
is_of_report Broken = true
is_of_report Usage = false
is_of_report Refused = false
is_of_report Store = false
is_of_report Memory = false
is_of_report Stream = false
