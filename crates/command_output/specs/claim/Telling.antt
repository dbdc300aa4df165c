-- What is told of a fault, and the status that goes with it.
use Rattle.std.specs.Prelude.{◌≡◌, ◌⊎◌, ℕ, List, ◌++◌, codes}
use Rattle.{command_output.specs.{claim.{Faults.status_of_fault, Writing.{Written, Told}}, declared.status.Status.Status}, state_files.specs.claim.Texts.{file_text, fault_text}}
use Rattle.state_files.specs.declared.fault.FileFault.{FileFault}
use Rattle.command_output.specs.declared.status.Status.TheVariants as status

abbrev pub fault_line : FileFault → List ℕ
fault_line fault = codes "plandesk: " ++ fault_text fault ++ codes "\n"

-- want of memory at a file
abbrev pub memory_at : List ℕ → List ℕ
memory_at name = codes "plandesk: " ++ name ++ codes ": Memory\n"

abbrev pub memory_line : FileFault → List ℕ
memory_line fault = memory_at (file_text fault)

-- a fault is told and gives the status; or memory was refused for its line, and that is told
abbrev pub Tells : FileFault → Status → (before after : Written) → Type 0
Tells fault end before after =
    ((end ≡ status_of_fault fault) × Told before after (fault_line fault))
    ⊎ ((end ≡ status.Memory) × Told before after (memory_line fault))
