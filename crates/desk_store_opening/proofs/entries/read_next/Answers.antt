use Rattle.{std.proofs.Common.{arith, rules}, desk_store_opening.proofs.Revisions.{names_of, are_named, next_read}, page_store.proofs.Stops.quiet_none}
use Rattle.desk_store_pages.proofs.Looking.{both, fails, fails_then, finds, not_looked, refuses}
use Rattle.desk_store_opening.proofs.entries.read_next.Goals as goal

pub returns-in_default-clause-reads : goal.returns-in_default-clause-reads
returns-in_default-clause-reads g c = not_looked (quiet_none c.args.pages.now) tt

pub returns-in_err-append_names-clause-reads : goal.returns-in_err-append_names-clause-reads
returns-in_err-append_names-clause-reads g c = fails c.from_residual.result c.in_err-append_names.ensures c.from_residual.ensures.1
    (λ m is. (is.1.is.has.numbers, names_of c.args.geography.now c.counties-ranges.result.now c.args.plan c.args.revision m is.0 c.counties-ranges.ensures is.1.is))

pub returns-then-len-ranges-clause-reads : goal.returns-then-len-ranges-clause-reads
returns-then-len-ranges-clause-reads g c = refuses c.in_ok-append_names.ensures (λ m appends is. c.if-len-ranges.true (search rules))

pub lay_counties-requires-clause-cut : goal.lay_counties-requires-clause-cut
lay_counties-requires-clause-cut g c = record { the_geography = c.args.geography.now; are = c.counties-ranges.ensures; blocks = c.requires.whole }

pub lay_counties-requires-clause-each : goal.lay_counties-requires-clause-each
lay_counties-requires-clause-each g c = let long = c.as_slice.ensures.len in let same = c.len.ensures in let many = c.if-len-ranges.false in omega arith

pub returns-in_err-next-clause-reads : goal.returns-in_err-next-clause-reads
returns-in_err-next-clause-reads g c =
    fails_then c.in_ok-append_names.ensures c.from_residual-in_err-next.result c.in_err-next.ensures.reads c.from_residual-in_err-next.ensures.1 (λ m read is. (
      is.0,
      are_named c.args.geography.now c.counties-ranges.result.now c.args.plan c.args.revision c.args.last.now.items c.args.before c.in-Ok.names.items c.append_names.new.into.items m c.counties-ranges.ensures c.in-Ok.ensures.items read
          c.args.n c.requires.whole c.as_slice.result.now c.as_slice-2.result.now c.as_slice.ensures.value c.as_slice-2.ensures.value is.0 is.1,
    ))

pub returns-clause-reads : goal.returns-clause-reads
returns-clause-reads g c =
    finds (both c.in_ok-append_names.ensures c.in_ok-next.ensures.reads) (λ m is.
    next_read c.args.geography.now c.counties-ranges.result.now c.args.plan c.args.revision c.args.last.now.items c.args.before c.in-Ok.names.items c.append_names.new.into.items m c.counties-ranges.ensures c.in-Ok.ensures.items is.0
    c.args.n c.requires.whole c.as_slice.result.now c.as_slice-2.result.now c.as_slice.ensures.value c.as_slice-2.ensures.value c.in_ok-next.next is.1)

pub returns-clause-within : goal.returns-clause-within
returns-clause-within g c = c.in_ok-next.ensures.within
