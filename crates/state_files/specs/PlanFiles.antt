-- What no promise rests on, beside claim/PlanFiles.antt.
use Rattle.{std.specs.{Prelude.{ℕ, Result, Vec}, declared.alloc.Global.Global}, byte_stream.specs.declared.source.Source.Ghosts, desk_model.specs.claim.Geography.GeographyModel}
use Rattle.state_files.specs.{claim.{Opening.opening_of, PlanFiles.ReadsPlan}, declared.{fault.{FileFault.FileFault, PlanFile.PlanFile}, plan_file.Companion.Companion}}

abbrev pub ReadsPlanBeside : {R : Type 0} → Ghosts R → PlanFile → GeographyModel → (before after : Companion R) → Result (Vec ℕ Global) FileFault → Type 0
ReadsPlanBeside r f g before after outcome =
    ReadsPlan f g before.districts (opening_of r.remaining r.turns r.failures before.opened)
    (opening_of r.remaining r.turns r.failures after.opened) outcome
