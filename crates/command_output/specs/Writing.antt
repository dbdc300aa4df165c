-- What no promise rests on, beside claim/Writing.antt.
use Rattle.{std.specs.Prelude.{ℕ, List, Option}, byte_stream.specs.declared.sink.Sink.Ghosts, command_output.specs.claim.Writing.Written}

abbrev pub written_of : {W : Type 0} → (W → Option (List ℕ)) → (W → ℕ) → W → Written
written_of held failures writer = record { held = held writer; failures = failures writer }

-- what is said of a writer and of one for errors, before and after
abbrev pub OfWriters : {W E : Type 0} → (says : (before after told_before told_after : Written) → Type 0)
    → Ghosts W → (old new : W) → Ghosts E → (told_old told_new : E) → Type 0
OfWriters says w old new e told_old told_new =
    says (written_of w.contents w.failures old) (written_of w.contents w.failures new)
    (written_of e.contents e.failures told_old) (written_of e.contents e.failures told_new)
