use Rattle.{std.proofs.Common.{ℕ, List, ◌++◌, ◌+◌, subst, [], ◌∷◌}, desk_store_pages.specs.Rising.{HasPutWith, PutsErrWith, PutsRowsWith}, desk_store_rows.specs.claim.Puts.Row}
use Rattle.{desk_store_rows.specs.claim.{Holders.holding_rows, Keys.{key_of, holding, holder_count, in_eight}}, desk_store_pages.proofs.Outcomes.{map_both, match_of}}
use Rattle.{desk_store_pages.proofs.Rising.{more_put_with, then_not_put_with, prefix_not_put_with}, page_store.proofs.Stops.quiet_more}
use Rattle.chunk_table.proofs.holds.put_holding.Goals as goal

pub returns-in_err-put_row_with : goal.returns-in_err-put_row_with
returns-in_err-put_row_with g c =
    let t = c.args.txn.now in
    let a = c.args.pages.now in
    let b = c.put_row_with.new.pages in
    let f = c.args.fingers.now in
    let e = c.in_err-put_row_with.field-0.0 in
    let why = c.in_err-put_row_with.ensures in
    record {
      quiet = why.quiet;
      begun = why.begun;
      put = match_of c.from_residual.result _ e (λ e. PutsErrWith f (holding_rows c.args.plan c.args.number c.args.count) t a b e) c.from_residual.ensures.1
          (prefix_not_put_with f ((key_of (holding c.args.plan c.args.number), []) ∷ []) ((key_of (holder_count c.args.number), in_eight (c.args.count + 1)) ∷ []) t a b e
          (subst (λ (key : List ℕ). PutsErrWith f ((key, []) ∷ []) t a b e) c.holding.ensures why.put));
    }

pub returns : goal.returns
returns g c =
    let t = c.args.txn.now in
    let u = c.put_row_with.new.txn in
    let y = c.put_row_with-2.new.txn in
    let a = c.args.pages.now in
    let b = c.put_row_with.new.pages in
    let d = c.put_row_with-2.new.pages in
    let f = c.args.fingers.now in
    let h = c.put_row_with.new.fingers in
    let x = c.put_row_with-2.new.fingers in
    let one : List Row = (c.holding.result, []) ∷ [] in
    let other : List Row = (c.holder_count.result, c.holder_count_value.result) ∷ [] in
    let first : HasPutWith f h one t u a b = c.in_ok-put_row_with.ensures.put in
    let then = c.put_row_with-2.ensures in
    record {
      quiet = quiet_more a b d c.in_ok-put_row_with.ensures.quiet then.quiet;
      begun = then.begun;
      put = subst (λ (rows : List Row). PutsRowsWith f x rows t y a d c.put_row_with-2.result) (λ i. (c.holding.ensures i, []) ∷ (c.holder_count.ensures i, c.holder_count_value.ensures i) ∷ [])
          (map_both c.put_row_with-2.result (λ _. HasPutWith h x other u y b d) (λ _. HasPutWith f x (one ++ other) t y a d) (λ e. PutsErrWith h other u b d e) (λ e. PutsErrWith f (one ++ other) t a d e)
          (λ _ put. more_put_with f h x one other t u y a b d first put) (λ e why. then_not_put_with f h one other t u a b d e first then.quiet why) then.put);
    }
