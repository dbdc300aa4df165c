-- Codes of faults and padded numbers are short.
use Rattle.std.proofs.{Common.{ℕ, ◌-◌, ◌<◌, ◌≤◌, length, replicate, decimal, arith, length-append}, lemmas.{Fmt.length-decimal-le, List.length-replicate}}
use Rattle.desk_model.specs.{claim.{Baf.fault_code, Padded.padded_decimal}, declared.reply.BodyFault.{BodyFault, TheVariants.Header}}

pub code_short : (fault : BodyFault) → length (fault_code fault) ≤ 2
code_short Header = omega arith
code_short _ = omega arith

pub padded_short : (n : ℕ) → n < 65536 → length (padded_decimal 3 n) ≤ 22
padded_short n small =
    omega (arith, length-append (replicate (3 - length (decimal n)) 48) (decimal n), length-replicate {A = ℕ} (3 - length (decimal n)) 48, length-decimal-le 5 n (omega arith) (omega arith) (omega arith))
