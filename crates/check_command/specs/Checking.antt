-- What `check` without a plan comes to: the counts of the blocks that the census files say, printed; or their first fault, told.
use Rattle.std.specs.{Prelude.{◌≡◌, ℕ, Result, Ok, Err, Vec}, declared.alloc.Global.Global}
use Rattle.{byte_stream.specs.declared.source.Source.Ghosts, check_command.specs.{Counts.counts_text, claim.Writing.Prints}, command_output.specs.claim.Telling.Tells}
use Rattle.{command_output.specs.{claim.Writing.Written, declared.status.Status.{Status, TheVariants.Done}}, desk_model.specs.declared.block.BlockRow.BlockRow}
use Rattle.state_files.specs.{claim.{Opening.{Census, census_of}, State.{Then, NoFile, ReadsState, AreLeftBy}}, declared.census.CensusFiles.CensusFiles}
use Rattle.state_files.specs.declared.fault.FileFault.{FileFault, TheVariants.Join}
use Rattle.state_files.specs.pl94_segment.declared.join.JoinFault.TheVariants as join

-- the counts of the blocks
abbrev pub PrintsCounts : Vec BlockRow Global → Result (Vec ℕ Global) FileFault → Type 0
PrintsCounts rows (Ok text) = text.items ≡ counts_text rows.items
PrintsCounts rows (Err fault) = fault ≡ Join join.Memory

abbrev pub CountsState : (before after : Census) → Result (Vec ℕ Global) FileFault → Type 0
CountsState before after = Then (ReadsState before after) NoFile PrintsCounts

-- the counts by so many workers, which are those of files read in turn, and how the files stand then
abbrev pub CountsStateBy : {R : Type 0} → Ghosts R → (workers : ℕ) → (before after : CensusFiles R) → Result (Vec ℕ Global) FileFault → Type 0
CountsStateBy {R} r workers before after outcome = (left : CensusFiles R) × AreLeftBy workers before left after
    × CountsState (census_of r.remaining r.turns r.failures before) (census_of r.remaining r.turns r.failures left) outcome

-- the text is printed; or nothing is, and the fault is told
abbrev pub Ends : Result (Vec ℕ Global) FileFault → Status → (before after told_before told_after : Written) → Type 0
Ends (Ok text) status before after told_before told_after = Prints text.items Done status before after told_before told_after
Ends (Err fault) status before after told_before told_after = (after ≡ before) × Tells fault status told_before told_after

-- the counts of the files by so many workers
abbrev pub Counts : {R : Type 0} → Ghosts R → (workers : ℕ) → (files stand : CensusFiles R) → Status → (before after told_before told_after : Written) → Type 0
Counts r workers files stand status before after told_before told_after =
    (outcome : Result (Vec ℕ Global) FileFault)
    × CountsStateBy r workers files stand outcome
    × Ends outcome status before after told_before told_after
