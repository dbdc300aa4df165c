use Rattle.std.{specs.Fmt.decimal, proofs.lemmas.{Fmt.length-decimal-le, List.{take-take, take-replicate, drop-replicate, drop-append-le, length-replicate}}}
use Rattle.std.proofs.Common.{◌-◌, ◌<◌, ◌^◌, arith, rules, ◌≡◌, ℕ, ◌≤◌, List, ◌++◌, length, take, drop, replicate, sym, ◌∙◌, ap, append_assoc, take-append-drop}
use Rattle.desk_model.specs.claim.Padded.{padded_decimal}
use Rattle.desk_model.proofs.decimal.write_padded.Goals as goal

-- zeros before a place are zeros before an earlier one
zeros_below : (xs : List ℕ) (n m : ℕ) → n ≤ m → take m xs ≡ replicate m 48 → take n xs ≡ replicate n 48
zeros_below xs n m le zeros = sym (take-take n m xs le) ∙ ap (take n) zeros ∙ take-replicate n m 48 le

-- digits after zeros, from so many places before their end
padded_from : (row tail : List ℕ) (start from width n : ℕ) → take start row ≡ replicate start 48 → drop start row ≡ decimal n ++ tail → from ≤ start
    → start - from ≡ width - length (decimal n) → drop from row ≡ padded_decimal width n ++ tail
padded_from row tail start from width n zeros digits le zeros_are =
    ap (drop from) (sym (take-append-drop start row) ∙ ap (λ xs. xs ++ drop start row) zeros)
    ∙ drop-append-le from (replicate start 48) (drop start row) (omega (arith, length-replicate {A = ℕ} start 48))
    ∙ ap (λ xs. xs ++ drop start row) (drop-replicate from start 48 ∙ ap (λ k. replicate k 48) zeros_are)
    ∙ ap (λ xs. replicate (width - length (decimal n)) 48 ++ xs) digits
    ∙ sym (append_assoc (replicate (width - length (decimal n)) 48) (decimal n) tail)

pub write_digits-start-requires : goal.write_digits-start-requires
write_digits-start-requires c =
    let small : c.args.number < 2 ^ 64 = omega arith in
    (omega (arith, length-decimal-le 20 c.args.number (omega arith) (omega arith) small), c.requires.room.1)

pub returns-then-start-end-clause-zeros : goal.returns-then-start-end-clause-zeros
returns-then-start-end-clause-zeros c = search (rules, zeros_below)

pub returns-else-start-end-clause-written : goal.returns-else-start-end-clause-written
returns-else-start-end-clause-written c =
    padded_from c.write_digits-start.new.buf _ c.write_digits-start.result (c.args.end - c.args.width) c.args.width c.args.number
    (search (rules, zeros_below))
    c.write_digits-start.ensures.written (omega arith) (omega (arith, c.write_digits-start.ensures.start))

pub returns-else-start-end-clause-zeros : goal.returns-else-start-end-clause-zeros
returns-else-start-end-clause-zeros c = search (rules, zeros_below)
