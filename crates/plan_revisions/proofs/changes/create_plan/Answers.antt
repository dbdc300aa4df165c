use Rattle.{std.proofs.Common.{◌≡◌, List, [], length, arith, rules, refl}, desk_store_pages.specs.{Reading.{HasNext, ReadErr}, claim.Puts.{HasPut, PutsErr}}}
use Rattle.{desk_store_rows.specs.{claim.{Puts.Row, Rows.KeyMap, Tidy.{IsNext, CountersFit}}, declared.value.Counters.Counters}, page_btree.specs.gets.claim.Map.InTxn}
use Rattle.{page_btree.specs.gets.declared.error.TreeError.{TreeError, TheVariants.TooDeep}, page_store.specs.claim.Transactions.{stored, disk_in, IsQuiet, Passed}}
use Rattle.{page_store.specs.declared.{pages.Pages.Pages, txn.Txn.Txn}, plan_revisions.specs.{PlanRows.created_rows, claim.Outcomes.{AreNext, HasNumbered, ChangeErr}}}
use Rattle.{plan_revisions.specs.claim.PlanRows.HasPlanNumber, sector_device.specs.declared.SectorDevice.Ghosts, desk_store_pages.proofs.RowsPut.{more_put, then_not_put}}
use Rattle.{desk_store_pages.proofs.Writing.{does, told_on}, plan_revisions.proofs.Exhausting.until_full}
use Rattle.plan_revisions_sweeps.proofs.chunk_table.Writing.{after_reads, only_read, unread}
use Rattle.plan_revisions.proofs.changes.create_plan.Goals as goal

-- The numbers are read, and then rows are put.
module _ {D : Type 0} {g : Ghosts D} where
  nothing_put : (t : Txn) (a b : Pages D g) → Passed a b → HasPut [] t t a b
  nothing_put t a b passed = record { passed = passed; pages = refl; put = λ honest m holds. holds; writes = omega arith; taken = omega arith; nearer = λ honest m holds. omega arith }

  -- the numbers are still those of the first pages
  told_then : (next : Counters) (t : Txn) (a b c : Pages D g) → IsQuiet b c → CountersFit next → ((disk_in b).is_honest → (m : KeyMap) → InTxn t (stored a) m → IsNext m next) → AreNext next t a c
  told_then next t a b c quiet fit told = record { fit = fit; told = λ honest m holds. told (quiet.honest honest) m holds }

  numbered_put : (enough : Counters → Type 0) (rows : Counters → List Row) (next : Counters) (t u : Txn) (a b c : Pages D g) → Passed a b → CountersFit next → ((disk_in b).is_honest → (m : KeyMap) → InTxn t (stored a) m → IsNext m next) → enough next → HasPut (rows next) t u b c → HasNumbered enough rows t u a c
  numbered_put enough rows next t u a b c passed fit told room put =
      search (told_then next t a b c put.passed.quiet fit told, more_put [] (rows next) t t u a b c (nothing_put t a b passed) put)

  -- ---- why not
  numbers_not_read : (rows : Counters → List Row) (t : Txn) (a b : Pages D g) (e : TreeError) → ReadErr HasNext t a b e → ChangeErr rows t a b e
  numbers_not_read rows t a b e why = search (arith, why)

  not_changed : (rows : Counters → List Row) (next : Counters) (t : Txn) (a c : Pages D g) (e : TreeError) → length (rows next) ≡ 2 → AreNext next t a c → PutsErr (rows next) t a c e → ChangeErr rows t a c e
  not_changed rows next t a c TooDeep two are why = λ honest m holds. let both = why honest m holds in let near = both.1 in (next, are.fit, are.told honest m holds, both.0, omega (arith, two, near))
  not_changed rows next t a c _ two are why = search arith

  numbered_not_put : (rows : Counters → List Row) (next : Counters) (t : Txn) (a b c : Pages D g) (e : TreeError) → length (rows next) ≡ 2 → Passed a b → CountersFit next → ((disk_in b).is_honest → (m : KeyMap) → InTxn t (stored a) m → IsNext m next) → IsQuiet b c → PutsErr (rows next) t b c e → ChangeErr rows t a c e
  numbered_not_put rows next t a b c e two passed fit told quiet why =
      not_changed rows next t a c e two (told_then next t a b c quiet fit told) (then_not_put [] (rows next) t t a b c e (nothing_put t a b passed) quiet why)

pub returns-in_err-next : goal.returns-in_err-next
returns-in_err-next g c =
    let e = c.in_err-next.field-0.0 in
    let looks = c.in_err-next.ensures.looks in
    until_full (unread c.from_residual.result e c.requires.begun looks.quiet c.from_residual.ensures.1
    (numbers_not_read (created_rows c.args.name.now c.args.kind c.args.districts) c.args.txn.now c.args.pages.now c.next_numbers.new.pages e looks.err)) (search rules)

pub returns-then-next : goal.returns-then-next
returns-then-next g c =
    let looks = c.in_ok-next.ensures.looks in
    let next : Counters = c.in_ok-next.next in
    let last = c.if-next.true in
    until_full (only_read c.requires.begun looks.quiet (record { next = next; are_next = record { fit = search rules; told = looks.there }; none = λ (enough : HasPlanNumber next). absurd (omega arith); passed = looks.passed; same = refl })) (search rules)

pub returns-in_err-put_plan : goal.returns-in_err-put_plan
returns-in_err-put_plan g c =
    let looks = c.in_ok-next.ensures.looks in
    let next : Counters = c.in_ok-next.next in
    until_full (told_on c.from_residual-in_err-put_plan.result (after_reads _ looks.quiet c.in_err-put_plan.ensures.did) c.from_residual-in_err-put_plan.ensures.1
    (λ why. numbered_not_put (created_rows c.args.name.now c.args.kind c.args.districts) next c.args.txn.now c.args.pages.now c.next_numbers.new.pages c.put_plan.new.pages c.in_err-put_plan.field-0.0 refl looks.passed (search rules) looks.there why.0 why.1)) (search rules)

pub returns : goal.returns
returns g c =
    let looks = c.in_ok-next.ensures.looks in
    let next : Counters = c.in_ok-next.next in
    until_full (does (after_reads _ looks.quiet c.in_ok-put_plan.ensures.did)
    (numbered_put HasPlanNumber (created_rows c.args.name.now c.args.kind c.args.districts) next c.args.txn.now c.put_plan.new.txn c.args.pages.now c.next_numbers.new.pages c.put_plan.new.pages looks.passed (search rules) looks.there (omega arith))) (search rules)
