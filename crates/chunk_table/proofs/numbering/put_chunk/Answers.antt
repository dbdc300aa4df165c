use Rattle.{std.proofs.Common.{◌∷◌, List, [], inl, inr, arith, rules, refl}, chunk_table.specs.Numbering.{AreNumbers, numbered_rows}, desk_store_rows.specs.ChunkRows.chunk_rows}
use Rattle.{desk_store_pages.specs.claim.Puts.{HasPut, PutsErr}, desk_store_rows.specs.{Steps.chunks_more, claim.{Keys.{key_of, counters}, Puts.Row, Rows.KeyMap}}}
use Rattle.{desk_store_rows.specs.{claim.{Tidy.{IsNext, CountersFit}, Values.counters_bytes}, declared.value.Counters.Counters}, page_btree.specs.gets.claim.Map.InTxn}
use Rattle.{page_btree.specs.gets.declared.error.TreeError.TreeError, page_store.specs.{claim.Transactions.{stored, disk_in, IsQuiet, Passed}, declared.pages.Pages.Pages}}
use Rattle.{page_store.specs.declared.txn.Txn.Txn, sector_device.specs.declared.SectorDevice.Ghosts, chunk_table.proofs.Writing.{after_reads, only_read, unread}}
use Rattle.desk_store_pages.proofs.{RowsPut.{more_put, then_not_put, prefix_not_put}, Writing.{does, told_on, puts_as, puts_more}}
use Rattle.chunk_table.proofs.numbering.put_chunk.Goals as goal

-- The numbers are read, and then rows are put.
module _ {D : Type 0} {g : Ghosts D} (t : Txn) (a b : Pages D g) where
  -- calls that read at most put no row
  nothing_put : Passed a b → HasPut [] t t a b
  nothing_put passed = record { passed = passed; pages = refl; put = λ honest m holds. holds; writes = omega arith; taken = omega arith; nearer = λ honest m holds. omega arith }

  -- the numbers are still those of the first pages
  told_then : (next : Counters) (c : Pages D g) → IsQuiet b c → CountersFit next → ((disk_in b).is_honest → (m : KeyMap) → InTxn t (stored a) m → IsNext m next) → AreNumbers next t a c
  told_then next c quiet fit told = record { fit = fit; told = λ honest m holds. told (quiet.honest honest) m holds }

  put_since : (rows : List Row) (u : Txn) (c : Pages D g) → Passed a b → HasPut rows t u b c → HasPut rows t u a c
  put_since rows u c passed put = more_put [] rows t t u a b c (nothing_put passed) put

  not_put_since : (rows : List Row) (c : Pages D g) (e : TreeError) → Passed a b → IsQuiet b c → PutsErr rows t b c e → PutsErr rows t a c e
  not_put_since rows c e passed quiet why = then_not_put [] rows t t a b c e (nothing_put passed) quiet why

-- the row of the numbers that come next
abbrev last_row : Counters → List Row
last_row next = (key_of counters, counters_bytes (chunks_more next 1)) ∷ []

pub returns-in_err-next : goal.returns-in_err-next
returns-in_err-next g c = unread c.from_residual.result c.in_err-next.field-0.0 c.requires.begun c.in_err-next.ensures.looks.quiet c.from_residual.ensures.1 (inl c.in_err-next.ensures.looks.err)

pub returns-then-next : goal.returns-then-next
returns-then-next g c =
    let looks = c.in_ok-next.ensures.looks in
    let next : Counters = c.in_ok-next.next in
    let last = c.if-next.true in
    only_read c.requires.begun looks.quiet
    (record { next = next; are = record { fit = search rules; told = looks.there }; none = λ enough. absurd (omega (arith, last, enough)); passed = looks.passed; same = refl })

pub returns-in_err-put_chunk_as : goal.returns-in_err-put_chunk_as
returns-in_err-put_chunk_as g c =
    let looks = c.in_ok-next.ensures.looks in
    let next : Counters = c.in_ok-next.next in
    let t = c.args.txn.now in
    let a = c.args.pages.now in
    let b = c.next_numbers.new.pages in
    let d = c.put_chunk_as.new.pages in
    let e = c.in_err-put_chunk_as.field-0.0 in
    told_on c.from_residual-in_err-put_chunk_as.result (after_reads _ looks.quiet c.in_err-put_chunk_as.ensures) c.from_residual-in_err-put_chunk_as.ensures.1
    (λ why. inr (
      next,
      told_then t a b next d why.0 (search rules) looks.there,
      not_put_since t a b (numbered_rows c.args.districts.now next) d e looks.passed why.0
          (prefix_not_put (chunk_rows next.chunk c.args.districts.now) (last_row next) t b d e why.1),
    ))

pub returns-in_err-put_row : goal.returns-in_err-put_row
returns-in_err-put_row g c =
    let looks = c.in_ok-next.ensures.looks in
    let next : Counters = c.in_ok-next.next in
    let t = c.args.txn.now in
    let a = c.args.pages.now in
    let b = c.next_numbers.new.pages in
    let d = c.put_row.new.pages in
    let e = c.in_err-put_row.field-0.0 in
    let last = puts_as (λ i. (c.counters.ensures i, c.counters_value.ensures i) ∷ []) c.in_err-put_row.ensures.puts in
    told_on c.from_residual-in_err-put_row.result (after_reads _ looks.quiet (puts_more _ c.in_ok-put_chunk_as.ensures last)) c.from_residual-in_err-put_row.ensures.1
    (λ why. inr (next, told_then t a b next d why.0 (search rules) looks.there, not_put_since t a b (numbered_rows c.args.districts.now next) d e looks.passed why.0 why.1))

pub returns : goal.returns
returns g c =
    let looks = c.in_ok-next.ensures.looks in
    let next : Counters = c.in_ok-next.next in
    let t = c.args.txn.now in
    let a = c.args.pages.now in
    let b = c.next_numbers.new.pages in
    let last = puts_as (λ i. (c.counters.ensures i, c.counters_value.ensures i) ∷ []) c.in_ok-put_row.ensures.puts in
    does (after_reads _ looks.quiet (puts_more _ c.in_ok-put_chunk_as.ensures last)) (λ put. record {
      next = next;
      are = told_then t a b next c.put_row.new.pages put.passed.quiet (search rules) looks.there;
      is = refl;
      put = put_since t a b (numbered_rows c.args.districts.now next) c.put_row.new.txn c.put_row.new.pages looks.passed put;
    })
