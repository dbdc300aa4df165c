use Rattle.{std.proofs.Common.{◌≡◌, ℕ, List, length, take, drop, sym, ap, ◌∙◌}, desk_store_rows.specs.claim.Keys.{key_of, part}}
use Rattle.desk_migration.proofs.parts.read_part.Goals as goal

pub returns-in_default : goal.returns-in_default
returns-in_default c = λ of. c.in_default.ensures of.plan of.revision of.index (c.as_slice.ensures.bytes ∙ of.key_is)

pub returns-in-None : goal.returns-in-None
returns-in-None c = λ of. c.in-None.ensures of.numbers of.chunks (sym of.value_is ∙ sym c.as_slice-2.ensures.bytes)

pub returns-in-Some-read_chunks : goal.returns-in-Some-read_chunks
returns-in-Some-read_chunks c =
    let (revision, index, told) = c.in-Some.ensures in
    let key : c.args.row.now.key ≡ key_of (part c.in-Some.plan revision index) = sym c.as_slice.ensures.bytes ∙ told.is in
    record {
      long = ap (λ (k : List ℕ). length k) key;
      plan = sym (ap (λ (k : List ℕ). take 8 (drop 1 k)) key);
      fits = told.fits.0;
      chunks = c.in-Some-read_chunks.ensures.0;
      value = c.in-Some-read_chunks.ensures.1 ∙ c.as_slice-2.ensures.bytes;
    }
