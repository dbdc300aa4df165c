use Rattle.{std.proofs.Common.{refl, inr, arith}, geo_tables.specs.{Loads.BeginErr, Rows.begun_rows}, desk_store_pages.proofs.Outcomes.match_of, page_store.proofs.Stops.quiet_more}
use Rattle.desk_store_pages.proofs.Reading.{put_after, not_put_after}
use Rattle.geo_tables.proofs.load_rows.begin_rows.Goals as goal

pub returns-in_err-put_begun : goal.returns-in_err-put_begun
returns-in_err-put_begun g c = record {
  quiet = quiet_more c.args.pages.now c.next_numbers.new.pages c.put_begun.new.pages c.next_numbers.ensures.looks.quiet c.put_begun.ensures.quiet;
  begun = c.put_begun.ensures.begun;
  put = match_of c.from_residual-in_err-put_begun.result _ c.in_err-put_begun.field-0.0 (BeginErr c.args.txn.now c.args.pages.now c.put_begun.new.pages) c.from_residual-in_err-put_begun.ensures.1
      (inr (record {
        next = c.in_ok-next.next;
        was = λ honest. c.in_ok-next.ensures.looks.there (c.put_begun.ensures.quiet.honest honest);
        why = not_put_after c.args.txn.now c.args.pages.now c.next_numbers.new.pages c.in_ok-next.ensures.looks.passed (begun_rows c.in_ok-next.next) c.put_begun.new.pages c.in_err-put_begun.field-0.0 c.put_begun.ensures.quiet c.in_err-put_begun.ensures.put;
      }));
}

pub returns : goal.returns
returns g c = record {
  quiet = quiet_more c.args.pages.now c.next_numbers.new.pages c.put_begun.new.pages c.next_numbers.ensures.looks.quiet c.put_begun.ensures.quiet;
  begun = c.put_begun.ensures.begun;
  put = record {
    next = c.in_ok-next.next;
    load_is = refl;
    load_fits = omega arith;
    others_fit = (c.in_ok-next.ensures.fits.0, c.in_ok-next.ensures.fits.1);
    was = λ honest. c.in_ok-next.ensures.looks.there (c.put_begun.ensures.quiet.honest honest);
    put = put_after c.args.txn.now c.args.pages.now c.next_numbers.new.pages c.in_ok-next.ensures.looks.passed (begun_rows c.in_ok-next.next) c.put_begun.new.txn c.put_begun.new.pages c.in_ok-put_begun.ensures.put;
  };
}
