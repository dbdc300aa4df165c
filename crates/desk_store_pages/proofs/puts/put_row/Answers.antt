use Rattle.{std.proofs.Common.{ℕ, List, [], ◌∷◌, sym, subst, ◌∙◌}, desk_store_pages.{specs.claim.Puts.{HasPut, PutsErr}, proofs.RowsPut.{one_put, one_not_put}}}
use Rattle.desk_store_pages.proofs.puts.put_row.Goals as goal

pub returns-in-Ok-clause-puts : goal.returns-in-Ok-clause-puts
returns-in-Ok-clause-puts g c =
    let put = c.in-Ok.ensures in
    record {
      quiet = c.put.ensures.reading.quiet;
      begun = c.put.ensures.takes.pages ∙ c.requires.begun ∙ sym c.put.ensures.reading.quiet.count;
      put = subst (λ (key : List ℕ). HasPut ((key, c.args.value.now) ∷ []) c.args.txn.now c.put.new.txn c.args.pages.now c.put.new.pages) c.as_slice.ensures.bytes
          (one_put c.as_slice.result.now c.args.value.now c.args.txn.now c.put.new.txn c.args.pages.now c.put.new.pages put.reading.passed put.takes.pages (λ honest m holds. (put.put honest m holds).0) put.takes.costs.writes put.takes.costs.taken
          (λ honest m holds. put.rises honest m holds));
    }

pub returns-in-Err-clause-puts : goal.returns-in-Err-clause-puts
returns-in-Err-clause-puts g c =
    let t = c.args.txn.now in
    let a = c.args.pages.now in
    let b = c.put.new.pages in
    let e = c.in-Err.error in
    record {
      quiet = c.put.ensures.reading.quiet;
      begun = c.put.ensures.takes.pages ∙ c.requires.begun ∙ sym c.put.ensures.reading.quiet.count;
      put = subst (λ (key : List ℕ). PutsErr ((key, c.args.value.now) ∷ []) t a b e) c.as_slice.ensures.bytes
          (one_not_put (c.as_slice.result.now, c.args.value.now) t a b e c.in-Err.ensures.tall c.in-Err.ensures.reading.err);
    }
