-- What is there where no mark is left.
use Rattle.desk_store_rows.proofs.upkeep.swept_is_clean.Goals as goal
use Rattle.{std.proofs.Common.{◌≡◌, ℕ, List, arith}, desk_store_rows.specs.claim.{Keys.{retired, begun, seal}, Lists.chunks_bytes, Rows.{KeyMap, Has, Lacks}, Values.seal_bytes}}
use Rattle.desk_store_rows.{specs.{claim.Tidy.{IsNumbered, IsKnown, IsLoad}, declared.value.SealRow.SealRow}, proofs.OneGeography.no_value}

unmarked : (m : KeyMap) (plan : ℕ) → Lacks m (retired plan) → IsKnown m plan → (name : List ℕ) × IsNumbered m name plan
unmarked m plan lacks given = search (arith, no_value)

unbegun : (m : KeyMap) (load : ℕ) → Lacks m (begun load) → IsLoad m load → (sealed : SealRow) × Has m seal (seal_bytes sealed) × (sealed.load ≡ load)
unbegun m load lacks given = search (arith, no_value)

pub returns : goal.returns
returns c m tidy = record {
  parts = λ lacks plan revision index value fits there. unmarked m plan (lacks plan fits.0) (tidy.owned.parts plan revision index value fits there);
  pieces = λ lacks number piece value fits there.
      let is = tidy.owned.chunks number piece value fits there in
      let naming = is.1 in
      let of = unmarked m is.0 (lacks is.0 naming.part_fits.0) (tidy.owned.parts is.0 naming.revision naming.index (chunks_bytes naming.numbers) naming.part_fits naming.row) in
      (of.0, is.0, of.1, naming);
  blocks = λ load place value lacks fits there. unbegun m load lacks (tidy.owned.blocks load place value fits there);
  pairs = λ load place value lacks fits there. unbegun m load lacks (tidy.owned.pairs load place value fits there);
}
