use Rattle.{std.proofs.{Common.{List, take, sym, subst, arith}, lemmas.List.take_all}, gal_text.specs.{Pairing.IsLeastOrNone, declared.units.Link.Link}}
use Rattle.gal_text.proofs.LinkLemmas.{taken_more}
use Rattle.gal_text.proofs.links.least_one_way.Goals as goal

pub loop-link-preserved : goal.loop-link-preserved
loop-link-preserved c =
    let links = c.args.links.now in
    let i = c.loop-link.link-index in
    let l = c.link-item.result in
    let more = taken_more links i l (omega arith) c.link-item.is in
    subst (λ (seen : List Link). IsLeastOrNone links seen c.with_link-least.result) (sym more)
    (c.with_link-least.ensures links (take i links) c.requires (i, omega arith, sym c.link-item.is) c.loop-link.invariant)

pub returns : goal.returns
returns c =
    let links = c.args.links.now in
    subst (λ (seen : List Link). IsLeastOrNone links seen c.loop-link.least) (take_all c.loop-link.link-index links (omega arith)) c.loop-link.invariant
