use Rattle.{std.proofs.Common.{inl, inr, refl}, desk_store_opening.proofs.Laying.known_stays, desk_store_pages.proofs.Looking.{begins, tells}}
use Rattle.desk_store_opening.proofs.counties.lay_changed.Goals as goal

pub returns-then-is_known-clause-reads : goal.returns-then-is_known-clause-reads
returns-then-is_known-clause-reads g c = begins (λ m holds.
    let known = c.is_known.ensures c.if-is_known.true in
    record {
      there = inl (known.0, known.1, refl);
      read = λ chunk said. known_stays c.args.n c.args.number c.args.range c.args.last.now c.args.county c.args.districts m chunk c.requires.within known.0 known.1 said;
    })

pub returns-clause-reads : goal.returns-clause-reads
returns-clause-reads g c = tells c.lay_county.result c.lay_county.ensures.reads (λ m all is. record { there = inr is.there; read = λ chunk said. is.read chunk said.is }) (λ m is. (is.0, is.1.is))
