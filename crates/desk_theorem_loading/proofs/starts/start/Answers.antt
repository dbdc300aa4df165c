use Rattle.{std.proofs.Common.{◌∙◌, inr}, desk_theorem_loading.proofs.Opened.opened_journal}
use Rattle.desk_theorem_loading.proofs.starts.start.Goals as goal

pub returns-in-Ok-load_geography-clause-journal : goal.returns-in-Ok-load_geography-clause-journal
returns-in-Ok-load_geography-clause-journal g c = λ honest.
    let x = c.in-Ok-opened.clerk in
    let moves = c.load_geography.ensures.moves in
    moves.room ∙ opened_journal c.args.journal_pages c.in-Ok.device x c.requires.size.most c.journal_fits.ensures c.in-Ok.ensures.ok.journal c.in-Ok-opened.ensures.ok (moves.honest honest)

pub returns-in-Ok-load_geography-clause-started : goal.returns-in-Ok-load_geography-clause-started
returns-in-Ok-load_geography-clause-started g c = search (c.in-Ok.ensures.ok, c.in-Ok-opened.ensures.ok, c.in-Ok-load_geography.ensures.loaded)

pub returns-in-Err-load_geography-clause-err : goal.returns-in-Err-load_geography-clause-err
returns-in-Err-load_geography-clause-err g c = inr (inr (record {
  new = c.in-Ok.device;
  formatted = c.in-Ok.ensures.ok;
  x = c.in-Ok-opened.clerk;
  opened = c.in-Ok-opened.ensures.ok;
  y = c.load_geography.new.clerk;
  why = c.in-Err-load_geography.ensures.err;
}))
