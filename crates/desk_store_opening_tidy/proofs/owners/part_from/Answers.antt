use Rattle.{std.{specs.List.starts_with, proofs.Common.{ℕ, List, Bool, true, false, sym, subst, ◌∙◌}}, desk_store_opening_tidy.specs.{Owners.IsPartKey, Rows.IsFirst}}
use Rattle.{desk_store_rows.specs.Keys.parts_prefix, desk_store_opening_tidy.proofs.{FirstRows.{none_at_all, none_after}, PartOrder.no_part}}
use Rattle.desk_store_pages.proofs.Looking.{fails, finds, refuses}
use Rattle.desk_store_opening_tidy.proofs.owners.part_from.Goals as goal

pub returns-in_err-found : goal.returns-in_err-found
returns-in_err-found g c = fails c.from_residual.result c.in_err-found.ensures c.from_residual.ensures.1 (λ m is. tt)

pub returns-then-not-found : goal.returns-then-not-found
returns-then-not-found g c = finds c.in_ok-found.ensures (λ m found.
    none_at_all m c.args.from.now parts_prefix (subst (λ (b : Bool). IsFirst b c.args.from.now c.first_from.new.row m) c.if-not-found.true found))

pub returns-then-not-starts_with : goal.returns-then-not-starts_with
returns-then-not-starts_with g c = finds c.in_ok-found.ensures (λ m found.
    let first = subst (λ (b : Bool). IsFirst b c.args.from.now c.first_from.new.row m) c.if-not-found.false found in
    let off = rw (c.as_slice.ensures.bytes, c.as_slice-2.ensures.bytes, c.parts.ensures) at
    (sym c.starts_with.ensures.value ∙ c.if-not-starts_with.true) in
    none_after m c.args.from.now _ first.0 first.1 parts_prefix c.requires.under off)

pub returns-in-None : goal.returns-in-None
returns-in-None g c = refuses c.in_ok-found.ensures (λ m found rows.
    let first = subst (λ (b : Bool). IsFirst b c.args.from.now c.first_from.new.row m) c.if-not-found.false found in
    let on = rw (c.as_slice.ensures.bytes, c.as_slice-2.ensures.bytes, c.parts.ensures) at
    (sym c.starts_with.ensures.value ∙ c.if-not-starts_with.false) in
    no_part m c.args.from.now _ first.0 first.1 rows on
    (λ plan revision index is. c.in-None.ensures plan revision index (c.as_slice-3.ensures.bytes ∙ is)))

pub returns-in-Some : goal.returns-in-Some
returns-in-Some g c = finds c.in_ok-found.ensures (λ m found.
    let first = subst (λ (b : Bool). IsFirst b c.args.from.now c.first_from.new.row m) c.if-not-found.false found in
    (_, first.0, first.1, subst (λ (k : List ℕ). IsPartKey c.in-Some.of.0 c.in-Some.of.1 k) c.as_slice-3.ensures.bytes c.in-Some.ensures))
