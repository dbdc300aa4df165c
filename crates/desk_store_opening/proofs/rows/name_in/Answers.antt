use Rattle.{std.proofs.Common.{rules, subst, Option, MatchOption}, desk_store_rows.specs.{RowKeys.{IsKey, IsNoKey, row_of}, claim.Keys.named}}
use Rattle.{desk_store_rows.specs.declared.row_key.RowKey.RowKey as Read, desk_store_opening.proofs.NewPlans.{name_told, name_short}}
use Rattle.desk_store_opening.proofs.rows.name_in.Goals as goal
use Rattle.desk_store_opening.proofs.rows.name_in.Goals.{in_default-via-in-Some+in_default, in_default-via-in_default}

pub returns-in-Some-Named : goal.returns-in-Some-Named
returns-in-Some-Named c =
    let name = c.in-Some-Named.name.now in
    let of : IsKey (named name) c.args.key.now = subst (λ (k : Read). IsKey (row_of k) c.args.key.now) c.in-Some-Named.field-0-is c.in-Some-Named.ensures in
    name_told c.args.key.now name c.read-in-Some-Named.result c.read-in-Some-Named.ensures of

pub returns-in_default : goal.returns-in_default
returns-in_default c = λ name is_name same. elim c.in_default.branch [
  | in_default-via-in-Some+in_default w ↦ search rules
  | in_default-via-in_default w ↦ (subst (λ (o : Option Read). MatchOption o (IsNoKey c.args.key.now) (λ k. IsKey (row_of k) c.args.key.now)) w.in_default.is c.read.ensures) (named name) (name_short name is_name) same
]
