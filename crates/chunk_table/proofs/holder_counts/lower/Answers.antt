use Rattle.{std.proofs.Common.{sym, ◌∙◌, rules}, chunk_table.proofs.LettingGo.{count_gone, count_not_gone, count_put, count_not_put}}
use Rattle.chunk_table.proofs.holder_counts.lower.Goals as goal

pub returns-in-Ok : goal.returns-in-Ok
returns-in-Ok g c =
    let done = c.in-Ok.ensures in
    record {
      quiet = c.remove.ensures.reading.quiet;
      begun = done.pages ∙ c.requires.begun ∙ sym c.remove.ensures.reading.quiet.count;
      put = count_gone c.args.number c.args.count c.args.txn.now c.remove.new.txn c.args.pages.now c.remove.new.pages c.as_slice.result.now (c.as_slice.ensures.bytes ∙ c.holder_count-key.ensures)
          c.if-count-eq0.true done.reading.passed done.pages (λ honest m holds. (done.remove honest m holds).0) done.costs.writes done.costs.given;
    }

pub returns-in-Err : goal.returns-in-Err
returns-in-Err g c = search (rules, count_not_gone)

pub returns-in-Ok-put : goal.returns-in-Ok-put
returns-in-Ok-put g c =
    let done = c.in-Ok-put.ensures in
    record {
      quiet = c.put.ensures.reading.quiet;
      begun = done.takes.pages ∙ c.requires.begun ∙ sym c.put.ensures.reading.quiet.count;
      put = count_put c.args.number c.args.count c.args.txn.now c.put.new.txn c.args.pages.now c.put.new.pages c.as_slice-2.result.now (c.as_slice-2.ensures.bytes ∙ c.holder_count-key.ensures)
          c.holder_count_value.result c.if-count-eq0.false c.holder_count_value.ensures done.reading.passed done.takes.pages (λ honest m holds. (done.put honest m holds).0) done.takes.costs.writes done.takes.fixed;
    }

pub returns-in-Err-put : goal.returns-in-Err-put
returns-in-Err-put g c = record {
  quiet = c.put.ensures.reading.quiet;
  begun = c.in-Err-put.ensures.takes.pages ∙ c.requires.begun ∙ sym c.put.ensures.reading.quiet.count;
  put = count_not_put c.args.number c.args.count c.args.txn.now c.put.new.txn c.args.pages.now c.put.new.pages c.as_slice-2.result.now (c.as_slice-2.ensures.bytes ∙ c.holder_count-key.ensures)
      c.holder_count_value.result c.holder_count_value.ensures c.in-Err-put.error
      c.in-Err-put.ensures.reading.err c.in-Err-put.ensures.takes.fixed;
}
