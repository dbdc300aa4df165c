-- One sector after the other.
use Rattle.{std.{specs.Prelude.{◌<◌, ◌+◌, ℕ, Ok, Err}, proofs.{Common.{inl, inr, subst, sym, ap, ◌∙◌, arith}, lemmas.Bool.cases_eq}}, sector_device.specs.Disk.Only}
use Rattle.{sector_copies.specs.{Copies.{Below, HasCopied, CopiesOne, CopiesAll}, declared.fault.CopyFault.CopyFault}, sector_device.specs.claim.Disk.{Disk, Nowhere, Touches}}
use Rattle.sector_device.proofs.Moments.{touches_more}

module _ (i : ℕ) (s a b : Disk) (t c d : Disk) (less : i < s.sectors) (before : HasCopied i s a t c) where
  written_more : Touches (Only i) c d → Touches (Below s.sectors) t d
  written_more one = touches_more (Below s.sectors) (Only i) t c d (λ j is. subst (λ (k : ℕ). k < s.sectors) (sym is) less) (before.written one.was_honest) one

  read_more : Touches Nowhere a b → Touches Nowhere s b
  read_more one = touches_more Nowhere Nowhere s a b (λ j none. none) (before.read one.was_honest) one

  pub copied_more : CopiesOne i a b c d (Ok tt) → HasCopied (i + 1) s b t d
  copied_more one = record {
    source_sectors = one.source_sectors ∙ before.source_sectors;
    target_sectors = one.target_sectors ∙ before.target_sectors;
    read = λ honest. read_more (one.read honest);
    passed = λ honest. one.failed.source_calm honest ∙ before.passed (one.read honest).was_honest;
    written = λ honest. written_more (one.written honest);
    taken = λ honest. one.failed.target_calm honest ∙ before.taken (one.written honest).was_honest;
    same = λ source target j below. elim (cases_eq j i) [
      | inl here ↦ ap d.reads here ∙ one.same source target ∙ (before.read (one.read source).was_honest).reads.same i (λ none. none) ∙ sym (ap s.reads here)
      | inr off ↦ (one.written target).reads.same j off ∙ before.same (one.read source).was_honest (one.written target).was_honest j (omega (arith, below, off))
    ];
  }

  pub copied_failed : (e : CopyFault) → CopiesOne i a b c d (Err e) → CopiesAll s b t d (Err e)
  copied_failed e one = record {
    read = λ honest. read_more (one.read honest);
    written = λ honest. written_more (one.written honest);
    copied = λ source target. tt;
    synced = λ honest. tt;
    failed = record {
      unread = λ is honest. let rose = one.failed.unread is honest in let was = before.passed (one.read honest).was_honest in omega (arith, rose, was);
      unwritten = λ is honest. let rose = one.failed.unwritten is honest in let was = before.taken (one.written honest).was_honest in omega (arith, rose, was);
      source_calm = tt;
      target_calm = tt;
    };
  }
