-- What a writer is given.
use Rattle.std.specs.Prelude.{◌≡◌, ℕ, List, ◌++◌, codes, Option, Result, Ok, Err}
use Rattle.{byte_stream.specs.{claim.Sends.{Sends, failures_with}, declared.sink.WriteFault.WriteFault}, command_output.specs.declared.status.Status.{Status, TheVariants.Stream}}

-- what a writer holds, where that is known, and how often it failed
pub record Written : Type 0 where
  pub held : Option (List ℕ)
  pub failures : ℕ

-- the whole text was written; or a prefix of it, and the writer failed once more
abbrev pub Writes : (before after : Written) → List ℕ → Result (Unit {0}) WriteFault → Type 0
Writes before after text sent = Sends before.held after.held sent text × (after.failures ≡ failures_with before.failures sent)

-- a line was written, as far as the writer did that
abbrev pub Told : (before after : Written) → List ℕ → Type 0
Told before after line = (sent : Result (Unit {0}) WriteFault) × Writes before after line sent

-- what is told where standard output fails, by the command's name
abbrev pub write_fault_line : List ℕ → List ℕ
write_fault_line command = codes "plandesk: " ++ command ++ codes ": WriteFault\n"

-- the status after a text was written: this one, with nothing told; or that of a stream's fault, and this line is told
abbrev pub EndsWriting : List ℕ → Result (Unit {0}) WriteFault → Status → Status → (told_before told_after : Written) → Type 0
EndsWriting line (Ok u) good status told_before told_after = (status ≡ good) × (told_after ≡ told_before)
EndsWriting line (Err fault) good status told_before told_after = (status ≡ Stream) × Told told_before told_after line

-- a text is printed, and the status says how that ended; this line is told where it fails
abbrev pub Prints : List ℕ → List ℕ → Status → Status → (before after told_before told_after : Written) → Type 0
Prints line text good status before after told_before told_after =
    (sent : Result (Unit {0}) WriteFault) × Writes before after text sent × EndsWriting line sent good status told_before told_after
