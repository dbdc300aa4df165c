use Rattle.{std.proofs.Common.{◌<◌, ◌^◌, ℕ, Option, subst, arith, rules}, chunk_table.specs.Holding.IsFreeFrom, desk_store_rows.specs.claim.{Keys.holding, Rows.{KeyMap, Lacks}}}
use Rattle.{page_btree.specs.puts.Fingers.Stand, page_store.specs.claim.Transactions.stored, chunk_table.proofs.HeldChunks.{held_of_all, held_of_fewer, not_held_of}}
use Rattle.{chunk_table.proofs.Writing.writes_as, desk_store_pages.proofs.Writing.{does, told_on}}
use Rattle.chunk_table.proofs.holds.hold_next.Goals as goal

pub returns-then-from-number : goal.returns-then-from-number
returns-then-from-number g c =
    let plan = c.args.plan in
    let number = c.args.number in
    let t = c.args.txn.now in
    let a = c.args.pages.now in
    let stand = Stand t (stored a) c.args.fingers.now in
    let may : KeyMap → Type 0 = λ m. Lacks m (holding plan number) × stand in
    let more : KeyMap → Type 0 = λ m. IsFreeFrom c.args.free plan m × stand in
    let fits : number < 2 ^ 64 = omega arith in
    let gives : (m : KeyMap) → IsFreeFrom c.args.free plan m → Lacks m (holding plan number) = λ m is. subst (λ (free : Option ℕ). IsFreeFrom free plan m) c.in-Some.is is number c.if-from-number.true fits in
    writes_as c.hold_unheld_with.result c.hold_unheld_with.ensures (λ _ did. held_of_fewer plan number gives did) (not_held_of plan number may t a c.hold_unheld_with.new.pages more (λ honest m holds is. (gives m is.0, is.1)))

pub returns-in-Ok : goal.returns-in-Ok
returns-in-Ok g c = does c.in-Ok.ensures (λ did. held_of_all c.args.plan c.args.number c.none.ensures.first c.none.ensures.second (search arith))

pub returns-in-Err : goal.returns-in-Err
returns-in-Err g c = search (rules, told_on, not_held_of)
