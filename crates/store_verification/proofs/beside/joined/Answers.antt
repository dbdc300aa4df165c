use Rattle.std.proofs.Common.{refl, sym, ◌∙◌}
use Rattle.store_verification.proofs.beside.joined.Goals as goal

pub returns-then-are_same : goal.returns-then-are_same
returns-then-are_same c =
    let all = c.in-Sound-Sound-Sound in
    record {
      leaves = all.field-0-0;
      ranges = all.ranges;
      seen = all.seen;
      owners_are = all.is-0;
      desk_is = all.is-1;
      rows_are = all.is-2;
      same = sym c.as_slice.ensures.value ∙ c.are_same.ensures c.if-are_same.true ∙ c.as_slice-in-Sound-Sound-Sound.ensures.value;
      count_is = refl;
    }
