-- What `check` prints.
use Rattle.{std.specs.Prelude.{ℕ, List, codes}, command_output.specs.{claim.Writing.{Written, write_fault_line, Prints as PrintsOr}, declared.status.Status.Status}}

-- a text is printed, and the status says how that ended
abbrev pub Prints : List ℕ → Status → Status → (before after told_before told_after : Written) → Type 0
Prints text good status before after told_before told_after =
    PrintsOr (write_fault_line (codes "check")) text good status before after told_before told_after
