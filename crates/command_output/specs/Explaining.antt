-- What is told after a fault's line, and printed for a code.
use Rattle.std.specs.{Prelude.{◌≡◌, ◌⊎◌, ℕ, List, Bool, true, false, Option, Some, None, IsSome, Result, Ok, Err, codes}, declared.alloc.AllocError.AllocError}
use Rattle.command_output.specs.{Sentences.sentence_of, Tables.Words, claim.Writing.{Written, Told, Prints, write_fault_line}, declared.status.Status.Status}
use Rattle.command_output.specs.declared.status.Status.TheVariants.{Done, Memory}

-- the line's words are told with the path of its file, where it has some; or memory was refused for them
abbrev pub TellsKnown : Result (Unit {0}) AllocError → (path : Option (List ℕ)) → Option Words → (before after : Written) → Type 0
TellsKnown (Ok u) path None before after = after ≡ before
TellsKnown (Ok u) path (Some words) before after = Told before after (sentence_of path words)
TellsKnown (Err e) path words before after = IsSome words × (after ≡ before)

-- where they are neither asked for nor told to a terminal nothing is, and no memory is taken
abbrev pub TellsWords : (is_wanted : Bool) → Result (Unit {0}) AllocError → (path : Option (List ℕ)) → Option Words → (before after : Written) → Type 0
TellsWords false (Ok u) path words before after = after ≡ before
TellsWords false (Err e) path words before after = ⊥
TellsWords true result path words before after = TellsKnown result path words before after

-- this text is printed, and the status says how that ended; or memory was refused for it
abbrev pub Explains : List ℕ → Status → (before after told_before told_after : Written) → Type 0
Explains text end before after told_before told_after =
    Prints (write_fault_line (codes "explain")) text Done end before after told_before told_after
    ⊎ ((end ≡ Memory) × (after ≡ before) × Told told_before told_after (codes "plandesk: explain: Memory\n"))
