use Rattle.{std.proofs.Common.{ℕ, List, sym, subst, rules, Option, MatchOption}, desk_store_rows.specs.{RowKeys.{IsKey, IsNoKey, row_of}, claim.Keys.part}}
use Rattle.{desk_store_rows.specs.declared.row_key.RowKey.RowKey as Read, store_verification_rows.{specs.Strays.NamesAt, proofs.Belonging.naming_at}}
use Rattle.store_verification_rows.proofs.namings.is_naming.Goals as goal

pub returns-in_default-2 : goal.returns-in_default-2
returns-in_default-2 c =
    let none = subst (λ (o : Option Read). MatchOption o (IsNoKey c.args.key.now) (λ k. IsKey (row_of k) c.args.key.now)) c.in_default.is c.read.ensures in
    record { yes = search rules; no = λ _ is. none (part is.plan is.revision is.index) tt is.key }

pub returns : goal.returns
returns c = record {
  yes = search rules;
  no = λ off is.
      let of : IsKey (part c.in-Some-Part.plan c.in-Some-Part.field-0-1 c.in-Some-Part.index) c.args.key.now = subst (λ (k : Read). IsKey (row_of k) c.args.key.now) c.in-Some-Part.field-0-is c.in-Some-Part.ensures in
      c.is_at.ensures.no off (subst (λ (ns : List ℕ). NamesAt c.args.ranges.now ns c.in-Some-Part.index c.args.number c.args.piece) (sym c.as_slice.ensures.value)
      (naming_at c.args.ranges.now c.args.of c.args.number c.args.piece c.args.key.now c.args.value.now c.in-Some-Part.plan c.in-Some-Part.field-0-1 c.in-Some-Part.index c.in-Some.numbers.items of c.in-Some.ensures.0 c.in-Some.ensures.1 is));
}
