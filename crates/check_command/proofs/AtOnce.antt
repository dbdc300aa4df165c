-- An audit whose census files were read by several workers is the one that reads in turn.
use Rattle.{std.proofs.Common.{◌≡◌, ℕ, Result, Ok, Err, Vec, Global, refl, sym, subst}, byte_stream.specs.declared.source.Source.Ghosts, desk_model.specs.declared.kind.Kind.Kind}
use Rattle.{check_command.specs.{Auditing.{AuditsBlocksFiles, AuditsStateBy}, declared.report.Audited.Audited}, desk_model.specs.declared.block.BlockRow.BlockRow}
use Rattle.state_files.specs.{AtOnce.ReadsStateBy, claim.State.AreLeftBy, declared.{census.CensusFiles.CensusFiles, fault.FileFault.FileFault}, declared.open.AuditFiles.AuditFiles}

module _ {R : Type 0} (r : Ghosts R) (workers : ℕ) (before after : AuditFiles R) (census : CensusFiles R) (kind : Kind) (n : ℕ) where
  -- the census files say these blocks
  pub read_on : (rows : Vec BlockRow Global) (outcome : Result Audited FileFault) → ReadsStateBy r workers before.census census (Ok rows) → after.census ≡ census → AuditsBlocksFiles r rows.items before after kind n outcome → AuditsStateBy r workers before after kind n outcome
  read_on rows outcome read same audits = (
    record after { census = read.0 },
    record { census = subst (λ (c : CensusFiles R). AreLeftBy workers before.census read.0 c) (sym same) read.2; neighbours = refl; plan = refl; senate = refl; congress = refl },
    (Ok rows, read.1, audits),
  )

module _ {R : Type 0} (r : Ghosts R) (workers : ℕ) (before : AuditFiles R) (census : CensusFiles R) (kind : Kind) (n : ℕ) where
  -- one of them has a fault
  pub read_no_more : (fault : FileFault) → ReadsStateBy r workers before.census census (Err fault) → AuditsStateBy r workers before (record before { census = census }) kind n (Err fault)
  read_no_more fault read = (
    record before { census = read.0 },
    record { census = read.2; neighbours = refl; plan = refl; senate = refl; congress = refl },
    (Err fault, read.1, ((refl, refl, refl), refl)),
  )
