use Rattle.{std.proofs.Common.{◌≡◌, ◌++◌, List, ℕ, ap, sym, subst, ◌∙◌, arith, rules}, desk_store_pages.specs.claim.Desks.AreWithin, desk_store_opening.proofs.Laying.with_long}
use Rattle.{desk_store_opening.proofs.Within.with_at_within, desk_store_pages.proofs.Looking.{fails, not_looked, refuses}}
use Rattle.desk_store_opening.proofs.counties.lay_county.Goals as goal

pub returns-in_err-get_chunk-clause-reads : goal.returns-in_err-get_chunk-clause-reads
returns-in_err-get_chunk-clause-reads g c = fails c.from_residual.result c.in_err-get_chunk.ensures c.from_residual.ensures.1 (λ m is. (is.0, is.1.is))

pub returns-then-len-range-clause-reads : goal.returns-then-len-range-clause-reads
returns-then-len-range-clause-reads g c = search rules

pub with_part-requires : goal.with_part-requires
with_part-requires g c = let within = c.requires.within in let long = c.as_slice-2.ensures.len in let same = c.len.ensures in let count = c.if-len-range.false in omega arith

pub returns-in-Ok-clause-long : goal.returns-in-Ok-clause-long
returns-in-Ok-clause-long g c = search (rules, with_long)

pub returns-in-Ok-clause-reads : goal.returns-in-Ok-clause-reads
returns-in-Ok-clause-reads g c = search rules

pub returns-in-Err-clause-reads : goal.returns-in-Err-clause-reads
returns-in-Err-clause-reads g c = not_looked c.in_ok-get_chunk.ensures.quiet tt

pub returns-then-is_above-clause-reads : goal.returns-then-is_above-clause-reads
returns-then-is_above-clause-reads g c = refuses c.in_ok-get_chunk.ensures (λ m appends is.
    let read : c.as_slice.result.now ≡ is.0 = c.as_slice.ensures.value ∙ appends.0 is.0 is.1.is ∙ ap (λ (l : List ℕ). l ++ is.0) c.clear.ensures.items in
    c.is_above.ensures.some c.if-is_above.true (subst (AreWithin c.args.n) (sym read) is.1.within))

pub returns-in-Ok-clause-within : goal.returns-in-Ok-clause-within
returns-in-Ok-clause-within g c = λ within. search (rules, with_at_within)
