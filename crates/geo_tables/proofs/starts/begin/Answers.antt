use Rattle.{std.proofs.Common.{sym, ap, ◌∙◌, length, arith}, page_store.specs.claim.Transactions.stored, geo_tables.proofs.Begun.{free_count, reads_rows}}
use Rattle.geo_tables.proofs.starts.begin.Goals as goal

pub returns : goal.returns
returns g c =
    let working = sym c.if-is_halted.ensures in
    record {
      pages = c.begin.ensures.pages;
      working = working;
      none = c.begin.ensures.none;
      journal = omega arith;
      free = omega arith;
      count = λ honest. sym (free_count c.begin.result (stored c.args.pages.now)) ∙ ap (λ l. length l) (c.begin.ensures.free working honest);
      same = λ honest i q. c.begin.ensures.over q i;
      root = λ honest. c.begin.ensures.root working honest;
      reads = λ honest. reads_rows c.args.pages.now c.begin.result c.begin.ensures.pages c.begin.ensures.over (c.begin.ensures.root working honest) (c.begin.ensures.free working honest);
    }
