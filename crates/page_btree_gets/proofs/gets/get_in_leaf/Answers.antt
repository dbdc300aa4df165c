use Rattle.{std.proofs.Common.{refl, ◌∙◌}, page_btree_gets.{specs.Getting.{CanGetIn, IsLevel}, proofs.Outcomes.refused_by}, page_store.specs.claim.Transactions.{txn_pages, over}}
use Rattle.{sector_device.specs.claim.Disk.Image, page_btree_gets.proofs.Refusals.refused_below, page_store.proofs.Stops.passed_none}
use Rattle.page_btree_gets.proofs.gets.get_in_leaf.Goals as goal

pub returns-in_err-own-clause-reading : goal.returns-in_err-own-clause-reading
returns-in_err-own-clause-reading g c =
    let can = λ (S : Image). CanGetIn (txn_pages c.args.txn.now) (over c.args.txn.now S) c.args.leaf c.args.from c.args.key.now in
    let at = λ (S : Image). IsLevel (txn_pages c.args.txn.now) (over c.args.txn.now S) 0 c.args.leaf in
    refused_below can at (passed_none c.args.pages.now) c.in_err-own.ensures.reaches.reading c.from_residual.ensures.1
    (λ honest is. record { node = record { level = 0; entries = is.0 }; node_is = is.1; level_is = refl; below = is.4 })

pub returns-in_err-found-clause-reading : goal.returns-in_err-found-clause-reading
returns-in_err-found-clause-reading g c = refused_by _ c.from_residual-in_err-found.ensures.1 c.in_ok-own.ensures.reaches.reading.quiet (rw c.in_err-found.ensures.err (λ honest is.
    c.in_err-found.ensures.refused (record { level = 0; entries = is.0 }) (rw (c.lent-bytes.ensures ∙ c.in_ok-own.ensures.lends honest) is.1) is.2 is.3))

pub returns-clause-value : goal.returns-clause-value
returns-clause-value g c = λ honest is. c.in_ok-found.ensures.value (record { level = 0; entries = is.0 }) (rw (c.lent-bytes.ensures ∙ c.in_ok-own.ensures.lends honest) is.1) is.2 is.3
