-- Readers that are taken back one after the other.
use Rattle.{std.proofs.Common.{◌≡◌, ℕ, sym, ap, ◌∙◌, arith}, sector_device.{specs.claim.Disk.{Disk, Image, Nowhere, Touches}, proofs.Moments.touches_more}}
use Rattle.store_verification.{specs.Readers.{IsTakenBack, AreTakenBack}, proofs.Seen.agreed}

holds_still : (held : ℕ → Image) (old new : Disk) → new.sectors ≡ old.sectors → Touches Nowhere old new → old.reads ≡ held old.sectors → new.reads ≡ held new.sectors
holds_still held old new sectors moved reads = sym (agreed old.reads new.reads moved.reads) ∙ reads ∙ ap held (sym sectors)

pub three_back : (held : ℕ → Image) (old a b new r s t : Disk) → IsTakenBack held old r a → IsTakenBack held a s b → IsTakenBack held b t new → AreTakenBack held old r s t new
three_back held old a b new r s t one two three = record {
  sectors = three.sectors ∙ two.sectors ∙ one.sectors;
  synced = λ synced. three.synced (two.synced (one.synced synced));
  moves = λ honest. touches_more Nowhere Nowhere old b new (λ i none. none) (until_second (in_second honest)) (three.moves honest);
  first_honest = λ honest reads sectors. one.honest (in_first (in_second honest)) reads sectors;
  second_honest = λ honest reads sectors.
      two.honest (in_second honest) (holds_still held old a one.sectors (one.moves (in_first (in_second honest))) reads) (sectors ∙ sym one.sectors);
  third_honest = λ honest reads sectors.
      three.honest honest (holds_still held old b (two.sectors ∙ one.sectors) (until_second (in_second honest)) reads) (sectors ∙ sym (two.sectors ∙ one.sectors));
  faults = λ honest. omega (arith, one.faults (in_first (in_second honest)), two.faults (in_second honest), three.faults honest);
}
  where
    in_second : new.is_honest → b.is_honest
    in_second honest = (three.moves honest).was_honest

    in_first : b.is_honest → a.is_honest
    in_first honest = (two.moves honest).was_honest

    until_second : b.is_honest → Touches Nowhere old b
    until_second honest = touches_more Nowhere Nowhere old a b (λ i none. none) (one.moves (in_first honest)) (two.moves honest)
