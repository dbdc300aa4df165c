use Rattle.{std.proofs.Common.{◌≡◌, ◌*◌, ◌/◌, length, ap, ◌∙◌, arith, rules}, desk_store_rows.proofs.ListValues.length-districts, store_verification_rows.proofs.PieceBytes.twos}
use Rattle.store_verification_rows.proofs.wholes.is_piece.Goals as goal

pub returns-then-count-eq0 : goal.returns-then-count-eq0
returns-then-count-eq0 c = record {
  yes = search rules;
  no = λ never is.
      let long : length c.args.value.now ≡ 2 * length is.0 = ap length is.2 ∙ length-districts is.0 in
      grind arith;
}

pub returns : goal.returns
returns c = record {
  yes = λ is.
      let all = twos (length c.args.value.now / 2) c.args.value.now (λ i. let fits = c.type_inv.value i in omega arith) (omega arith) in
      (all.districts, record { some = omega arith; most = omega arith; each = all.each }, all.is);
  no = search rules;
}
