use Rattle.{std.proofs.Common.{◌++◌, List, ℕ, ap, subst, ◌∙◌}, desk_store_pages.{specs.claim.Desks.AreWithin, proofs.Looking.finds}}
use Rattle.desk_store_opening.proofs.unkept_chunks.check_chunk.Goals as goal

pub returns : goal.returns
returns g c = finds c.in_ok-get_chunk.ensures (λ m is.
    let read = is.1 in
    record {
      chunk = read.xs;
      pieces = read.stands;
      within = subst (AreWithin c.args.n) (c.as_slice.ensures.value ∙ read.is ∙ ap (λ (l : List ℕ). l ++ read.xs) c.clear.ensures.items) (c.is_above.ensures.none c.if-is_above.false);
    })
