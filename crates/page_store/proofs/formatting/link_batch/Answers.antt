use Rattle.{gate_journal.specs.claim.{Store.pages, Writes.writes_of}, page_store.proofs.Made.linked_batch}
use Rattle.page_store.proofs.formatting.link_batch.Goals as goal

pub returns-clause-model : goal.returns-clause-model
returns-clause-model g c = λ honest.
    let J = c.args.layout.journal_pages in
    let n = c.args.layout.pages in
    let a = g.D.SectorDevice.disk c.args.device.now in
    let d = g.D.SectorDevice.disk c.commit_on.new.device in
    let ws = writes_of c.link_pages.new.writes in
    let done = c.commit_on.ensures.model honest in
    linked_batch J n c.args.from c.batch_end-to.result a d ws c.commit_on.result c.batch_end-to.ensures.all (c.link_pages.ensures.others (pages J a.reads)) (c.link_pages.ensures.linked (pages J a.reads)) done
