use Rattle.{std.proofs.Common.{◌∙◌, refl, rules}, gate_journal.specs.claim.{Store.overlay, Writes.writes_of}, page_store.specs.{Chain.IsMeta, claim.Transactions.over}}
use Rattle.{sector_device.specs.claim.Disk.Image, gate_journal.proofs.Images.put_on, page_store.proofs.Chains.{meta_words, meta_free, meta_pages}}
use Rattle.page_store.proofs.txn.Txn.prepare.Goals as goal

pub returns : goal.returns
returns c =
    let t = c.args.self in
    let Q = λ (P : Image). overlay (writes_of c.put.new.self) P in
    let meta : (P : Image) → IsMeta (Q P) t.root t.first t.free = λ P.
    meta_words c.set_word.new.sector c.set_word-2.new.sector c.set_word-3.new.sector t.root t.first t.free c.set_word.ensures.set c.set_word-2.ensures.set c.set_word-3.ensures.set
    c.set_word-2.ensures.others c.set_word-3.ensures.others (Q P) (c.in_ok-put.ensures.written P 0 ∙ put_on (0, c.set_word-3.new.sector) (over t P) 0 refl) in
    let free = λ (P : Image). meta_free t.pages (over t P) (Q P) c.set_word-3.new.sector t.root t.first t.free (c.in_ok-put.ensures.written P) (meta P) in
    record {
      pages = search rules;
      after = search rules;
      root = λ P. (meta P).root_is;
      free = free;
      sound = λ P are. meta_pages t.pages (Q P) t.root t.first t.free _ (meta P) t.root_below t.first_below t.free_below (free P are) are;
      more = search rules;
      again = search rules;
      err = search rules;
    }
