-- Which file is opened by which name, one after the other.
use Rattle.std.specs.{Option.option_copied, Prelude.{◌≡◌, ℕ, List, Option, Some, None, is_some, Result}}
use Rattle.{desk_model.specs.declared.companions.Companions.Companions, state_files.specs.declared.{census.CensusFiles.CensusFiles, fault.OpenFault.OpenFault}}
use Rattle.state_files.specs.{declared.open.{AuditFiles.AuditFiles, AuditPaths.AuditPaths, CensusPaths.CensusPaths}, declared.plan_file.Companion.Companion}

-- the header by its name, and then each segment by its own
abbrev pub OpensCensus : {R O : Type 0} → (O → List ℕ → Result R OpenFault → O → Type 0) → O → CensusPaths → CensusFiles R → O → Type 0
OpensCensus {R} {O} opens before paths files after = (first : O) × (second : O) × (third : O)
    × opens before paths.geo.now files.geo first × opens first paths.seg1.now files.seg1 second
    × opens second paths.seg2.now files.seg2 third × opens third paths.seg3.now files.seg3 after

-- a companion by its name, where one is given, and with its number of districts
abbrev pub OpensCompanion : {R O : Type 0} → (O → List ℕ → Result R OpenFault → O → Type 0)
    → O → Option (List ℕ) → Option ℕ → Option (Companion R) → O → Type 0
OpensCompanion opens before None n None after = after ≡ before
OpensCompanion opens before None n (Some companion) after = ⊥
OpensCompanion opens before (Some name) n None after = ⊥
OpensCompanion opens before (Some name) n (Some companion) after = (n ≡ Some companion.districts) × opens before name companion.opened after

-- there is each companion here where there is one there
pub record AreAlike {X Y : Type 0} (here : Companions X) (there : Companions Y) : Type 0 where
  pub senate : is_some here.senate ≡ is_some there.senate
  pub congress : is_some here.congress ≡ is_some there.congress

-- the census files, the neighbour file, the plan, and its companions, which have so many districts, each by its name
abbrev pub OpensAudit : {R O : Type 0} → (O → List ℕ → Result R OpenFault → O → Type 0) → O → AuditPaths → Companions ℕ → AuditFiles R → O → Type 0
OpensAudit {R} {O} opens before paths n files after = (census : O) × (neighbours : O) × (plan : O) × (senate : O)
    × OpensCensus opens before paths.census files.census census × opens census paths.gal.now files.gal neighbours
    × opens neighbours paths.plan.now files.plan plan
    × OpensCompanion opens plan (option_copied paths.beside.senate) n.senate files.senate senate
    × OpensCompanion opens senate (option_copied paths.beside.congress) n.congress files.congress after
