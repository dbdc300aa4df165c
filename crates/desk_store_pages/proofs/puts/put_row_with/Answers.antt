use Rattle.{std.proofs.Common.{ℕ, List, [], ◌∷◌, subst, sym}, desk_store_pages.specs.Rising.{HasPutWith, PutsErrWith}, page_btree.specs.puts.Fingers.{Stand, StandsIn, IsPutBy}}
use Rattle.{page_store.specs.claim.Transactions.stored, desk_store_pages.proofs.Rising.{one_put_with, one_not_put_with}}
use Rattle.desk_store_pages.proofs.puts.put_row_with.Goals as goal

pub returns-in-Ok-clause-put : goal.returns-in-Ok-clause-put
returns-in-Ok-clause-put g c =
    let put = c.in-Ok.ensures in
    let t = c.args.txn.now in
    let u = c.put_with.new.txn in
    let a = c.args.pages.now in
    let b = c.put_with.new.pages in
    let S = stored a in
    let f = c.args.fingers.now in
    let h = c.part.new.self in
    let key = c.as_slice-bytes.result.now in
    subst (λ (key : List ℕ). HasPutWith f h ((key, c.args.value.now) ∷ []) t u a b) c.as_slice-bytes.ensures.bytes
    (one_put_with f h key c.args.value.now t u a b put.reading.passed put.takes.pages (λ honest m holds stand.
    let turned : Stand t S c.turn.new.self = c.turn.ensures t S stand in
    let did : IsPutBy c.put_with.new.finger t u S m (key, c.args.value.now) _ = put.put honest m holds turned.0 in (
      did.reads,
      (
        subst (λ x. StandsIn u S x) (sym c.part.ensures.first) did.stands,
        λ some. let apart = c.part.ensures.second some in subst (λ x. StandsIn u S x) (sym apart.2) (did.others apart.0 c.turn.new.self.second apart.1 turned.1) some,
      ),
    )) put.takes.costs.writes put.takes.costs.taken
    (λ honest m holds stand. put.rises honest m holds (c.turn.ensures t S stand).0))

pub returns-in-Err-clause-put : goal.returns-in-Err-clause-put
returns-in-Err-clause-put g c =
    let t = c.args.txn.now in
    let a = c.args.pages.now in
    let b = c.put_with.new.pages in
    let f = c.args.fingers.now in
    subst (λ (key : List ℕ). PutsErrWith f ((key, c.args.value.now) ∷ []) t a b c.in-Err.error) c.as_slice-bytes.ensures.bytes
    (one_not_put_with f c.turn.new.self.first (c.as_slice-bytes.result.now, c.args.value.now) t a b (λ S stand. (c.turn.ensures t S stand).0) c.in-Err.error c.in-Err.ensures.tall c.in-Err.ensures.reading.err)
