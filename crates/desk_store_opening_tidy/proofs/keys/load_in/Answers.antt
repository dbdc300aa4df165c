use Rattle.{std.proofs.Common.{inl, inr, subst, Option, MatchOption}, desk_store_rows.specs.{RowKeys.{IsKey, IsNoKey, row_of}, claim.Keys.{block, pair}}}
use Rattle.desk_store_rows.specs.declared.row_key.RowKey.{RowKey as Read}
use Rattle.desk_store_opening_tidy.proofs.keys.load_in.Goals as goal

pub returns-in_default-2 : goal.returns-in_default-2
returns-in_default-2 c =
    let none = subst (λ (o : Option Read). MatchOption o (IsNoKey c.args.key.now) (λ k. IsKey (row_of k) c.args.key.now)) c.in_default.is c.read.ensures in
    λ load place is. elim is [
      | inl of ↦ none (block load place) tt of
      | inr of ↦ none (pair load place) tt of
    ]
