-- What a plan's file comes to: its bytes, and what they say of the blocks.
use Rattle.std.specs.{Io.KnownBytes.Consumes, Prelude.{◌≡◌, ℕ, List, Option, Some, None, option_map, Result, Ok, Err, IsOkAnd, Vec}, declared.alloc.Global.Global}
use Rattle.{baf_text.specs.{claim.Faults.IsFaultOf, declared.reading.BafFault.BafFault}, desk_model.specs.claim.{Baf.{body_read, whole}, Geography.GeographyModel}}
use Rattle.state_files.specs.claim.{Opening.{File, Opening, opening_of}, State.{IsAtLimit, Then, NoFile}, Whole.{IsWholeFile, failures_after_whole}}
use Rattle.state_files.specs.declared.fault.{FileFault.{FileFault, TheVariants.Plan}, OpenFault.OpenFault, PlanFault.{PlanFault, TheVariants.{Unreadable, TooLarge, Body, Memory}}}
use Rattle.state_files.specs.declared.{fault.PlanFile.PlanFile, plan_file.Companion.Companion, whole.WholeFault.WholeFault}
use Rattle.baf_text.specs.declared.reading.BafFault.TheVariants as baf
use Rattle.state_files.specs.declared.whole.WholeFault.TheVariants as whole_file
use Rattle.state_files.specs.declared.fault.OpenFault.TheVariants as opening

abbrev pub plan_fault_of_open : OpenFault → PlanFault
plan_fault_of_open opening.Unreadable = Unreadable
plan_fault_of_open opening.Memory = Memory

abbrev pub plan_fault_of_whole : WholeFault → PlanFault
plan_fault_of_whole whole_file.TooLarge = TooLarge
plan_fault_of_whole whole_file.Failed = Unreadable
plan_fault_of_whole whole_file.TurnLimit = Unreadable
plan_fault_of_whole whole_file.Memory = Memory

abbrev pub plan_fault_of_baf : BafFault → PlanFault
plan_fault_of_baf (baf.Body code line) = Body code line
plan_fault_of_baf baf.Memory = Memory

abbrev pub whole_outcome : PlanFile → Result (Vec ℕ Global) WholeFault → Result (Vec ℕ Global) FileFault
whole_outcome f (Ok bytes) = Ok bytes
whole_outcome f (Err fault) = Err (Plan f (plan_fault_of_whole fault))

-- These bytes came from the file, and this is what was read. Its reader failed once more exactly where that is told, and the
-- turn limit is told at the limit alone.
abbrev pub AreBytesOf : (before after : File) → Result (Vec ℕ Global) WholeFault → Type 0
AreBytesOf before after read = (text : List ℕ) × Consumes before.unread after.unread text × IsWholeFile text after.unread read
    × (after.failures ≡ failures_after_whole before.failures read)
    × (read ≡ Err whole_file.TurnLimit → IsAtLimit before after)

-- the file's bytes, all of them
abbrev pub ReadsBytes : PlanFile → (before after : Opening) → Result (Vec ℕ Global) FileFault → Type 0
ReadsBytes f (Err fault) after outcome = (after ≡ Err fault) × (outcome ≡ Err (Plan f (plan_fault_of_open fault)))
ReadsBytes f (Ok before) (Err fault) outcome = ⊥
ReadsBytes f (Ok before) (Ok after) outcome = (read : Result (Vec ℕ Global) WholeFault)
    × AreBytesOf before after read × (outcome ≡ whole_outcome f read)

-- what the bytes say: the district of each block, or the first fault
abbrev pub JudgesPlan : PlanFile → GeographyModel → ℕ → List ℕ → Result (Vec ℕ Global) FileFault → Type 0
JudgesPlan f g n text (Ok plan) = IsOkAnd (body_read g n text) (λ values. plan.items ≡ whole g values)
JudgesPlan f g n text (Err fault) = (told : BafFault) × IsFaultOf (body_read g n text) told × (fault ≡ Plan f (plan_fault_of_baf told))

abbrev pub ReadsPlan : PlanFile → GeographyModel → ℕ → (before after : Opening) → Result (Vec ℕ Global) FileFault → Type 0
ReadsPlan f g n before after = Then (ReadsBytes f before after) NoFile (λ bytes. JudgesPlan f g n bytes.items)

-- a companion's file, where there is one, and its number of districts
abbrev pub companion_of : {R : Type 0} → (R → Option (List ℕ)) → (R → ℕ) → (R → ℕ) → Option (Companion R) → Option (Opening × ℕ)
companion_of unread turns failures None = None
companion_of unread turns failures (Some companion) = Some (opening_of unread turns failures companion.opened, companion.districts)

abbrev pub ReadsCompanion : PlanFile → GeographyModel → (before after : Option (Opening × ℕ)) → Result (Option (Vec ℕ Global)) FileFault → Type 0
ReadsCompanion f g None after outcome = (after ≡ None) × (outcome ≡ Ok None)
ReadsCompanion f g (Some before) None outcome = ⊥
ReadsCompanion f g (Some before) (Some after) outcome = (after.1 ≡ before.1)
    × Then (ReadsPlan f g before.1 before.0 after.0) NoFile (λ plan end. end ≡ Ok (Some plan)) outcome

-- the districts of a companion, where there is one
abbrev pub beside : Option (Vec ℕ Global) → Option (List ℕ)
beside companion = option_map (λ c. c.items) companion
