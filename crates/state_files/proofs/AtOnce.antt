-- Files that were read at once, and judged in their order, are as if they had been read in turn up to the first fault.
use Rattle.{std.proofs.Common.{ℕ, ◌<◌, inl, inr, Result, Ok, Err, Vec, Global, refl}, byte_stream.specs.declared.source.Source.Ghosts, pl94_geo.specs.declared.geo.GeoRows.GeoRows}
use Rattle.{desk_model.specs.declared.block.BlockRow.BlockRow, pl94_segment.specs.declared.segment.SegRows.SegRows, state_files.specs.AtOnce.{ReadsEach, JudgesEach, ReadsStateBy}}
use Rattle.state_files.specs.{claim.{Opening.census_of, State.ReadsState}, declared.{census.CensusFiles.CensusFiles, fault.FileFault.FileFault}}

module _ {R : Type 0} (r : Ghosts R) (workers : ℕ) (before after : CensusFiles R) where
  pub at_once : 1 < workers → (header : Result GeoRows FileFault) (first second third : Result SegRows FileFault) (outcome : Result (Vec BlockRow Global) FileFault) → ReadsEach r before after header first second third → JudgesEach header first second third outcome → ReadsStateBy r workers before after outcome
  at_once more (Err e) first second third outcome read judged = (
    record before { geo = after.geo },
    (Err e, read.header, ((refl, refl, refl), judged.1)),
    record { header = refl; first = inr (more, refl); second = inr (more, refl); third = inr (more, refl) },
  )
  at_once more (Ok rows) (Err e) second third outcome read judged = (
    record before { geo = after.geo; seg1 = after.seg1 },
    (Ok rows, read.header, (Err e, read.first, ((refl, refl), judged.1))),
    record { header = refl; first = inl refl; second = inr (more, refl); third = inr (more, refl) },
  )
  at_once more (Ok rows) (Ok one) (Err e) third outcome read judged = (
    record after { seg3 = before.seg3 },
    (Ok rows, read.header, (Ok one, read.first, (Err e, read.second, (refl, judged.1)))),
    record { header = refl; first = inl refl; second = inl refl; third = inr (more, refl) },
  )
  at_once more (Ok rows) (Ok one) (Ok two) third outcome read judged = (
    after,
    (Ok rows, read.header, (Ok one, read.first, (Ok two, read.second, (third, read.third, judged)))),
    record { header = refl; first = inl refl; second = inl refl; third = inl refl },
  )

  -- in turn
  pub in_turn : (outcome : Result (Vec BlockRow Global) FileFault) → ReadsState (census_of r.remaining r.turns r.failures before) (census_of r.remaining r.turns r.failures after) outcome → ReadsStateBy r workers before after outcome
  in_turn outcome read = (after, read, record { header = refl; first = inl refl; second = inl refl; third = inl refl })
