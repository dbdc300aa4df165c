use Rattle.{std.{specs.Prelude.{IfSome, ◌<◌, ◌≤◌, length}, proofs.{Common.{◌≡◌, sym, subst, rules, ap}, lemmas.Option.IfSome_then}}, page_btree_gets.specs.node.Entries.key_at}
use Rattle.{page_btree_gets.specs.node.claim.{Entries.{Entry, child_bytes, size_of}, Node.IsNode}, page_store.specs.claim.Transactions.stored, page_btree_puts.proofs.Wide.cut_wide}
use Rattle.{page_btree_gets.proofs.Outcomes.{reads_after, refused_as, refused_by, map_ok}, page_btree_puts.proofs.Failing.{link_read_failed, link_written_failed}}
use Rattle.page_btree_gets.proofs.node.Laws.{node_unique}
use Rattle.page_btree_puts.proofs.puts.link.Goals as goal

pub returns-clause-reading : goal.returns-clause-reading
returns-clause-reading g c = search (c.in_ok-read.ensures.reading.passed, reads_after, link_written_failed)

pub returns-clause-linked : goal.returns-clause-linked
returns-clause-linked g c = λ honest node is some are off.
    let before = c.settle.ensures.reading.quiet.honest honest in
    let same : stored c.read.new.pages ≡ stored c.args.pages.now = c.read.ensures.reading.quiet.same before in
    let there : IsNode c.read.new.page node = subst (λ bytes. IsNode bytes node) (sym (c.in_ok-read.ensures.reads before)) is in
    let entry : ◌≡◌ {A = Entry} (c.key.result.now, c.to_be_bytes.result) (key_at c.args.room.now.upper.entries 0, child_bytes c.args.right) = λ i. (c.key.ensures.key i, c.to_be_bytes.ensures i) in
    search (rules, node_unique c.read.new.page c.read-2.new.self node c.in_ok-read-2.ensures.read there)

pub returns-in_err-read-clause-reading : goal.returns-in_err-read-clause-reading
returns-in_err-read-clause-reading g c = refused_as _ c.in_err-read.ensures.reading c.from_residual.ensures.1 (link_read_failed c.args.page c.args.txn.now c.args.pages.now c.read.new.pages _)

pub returns-in_err-read-2-clause-reading : goal.returns-in_err-read-2-clause-reading
returns-in_err-read-2-clause-reading g c = refused_by _ c.from_residual-in_err-read-2.ensures.1 c.in_ok-read.ensures.reading.quiet
    (λ honest are node is some. c.in_err-read-2.ensures.refused node (rw (c.in_ok-read.ensures.reads honest) is))

pub returns-clause-wide : goal.returns-clause-wide
returns-clause-wide g c = λ honest node is high.
    let before = c.settle.ensures.reading.quiet.honest honest in
    let there : IsNode c.read.new.page node = subst (λ bytes. IsNode bytes node) (sym (c.in_ok-read.ensures.reads before)) is in
    let four : length c.to_be_bytes.result ≡ 4 = ap length c.to_be_bytes.ensures in
    map_ok c.settle.result (λ cut. IfSome cut (λ q. 4092 < size_of c.insert.new.self.entries)) (λ cut. IfSome cut (λ q. 51 ≤ length node.entries))
    (λ cut over. IfSome_then cut over (λ q more. cut_wide c.read.new.page c.read-2.new.self node c.insert.new.self c.place_after-place.result c.key.result.now c.to_be_bytes.result (node_unique c.read.new.page c.read-2.new.self node c.in_ok-read-2.ensures.read there) c.insert.ensures c.key.ensures.short four there high more))
    c.settle.ensures.over
