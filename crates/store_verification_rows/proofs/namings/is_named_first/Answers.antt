use Rattle.{std.proofs.Common.{◌≡◌, true, false, subst}, page_btree.specs.node.claim.Entries.Entry, store_verification_rows.specs.Strays.IsNaming}
use Rattle.desk_store_pages.proofs.Looking.{begins, fails, finds}
use Rattle.store_verification_rows.proofs.namings.is_named_first.Goals as goal

pub returns-in_default : goal.returns-in_default
returns-in_default g c = begins (λ m holds was. (was, λ is. absurd (let clash : false ≡ true = is in cc)))

pub returns-in_err-hold_row : goal.returns-in_err-hold_row
returns-in_err-hold_row g c = fails c.from_residual.result c.in_err-hold_row.ensures c.from_residual.ensures.1 (λ m any. any)

pub returns-then-not-branch : goal.returns-then-not-branch
returns-then-not-branch g c = finds c.in_ok-hold_row.ensures (λ m held was. ((held was).0, λ is. absurd (let clash : false ≡ true = is in cc)))

pub returns : goal.returns
returns g c = finds c.in_ok-hold_row.ensures (λ m held was. (
  (held was).0,
  λ is. (
    (c.hold_row.new.part.key, c.hold_row.new.part.value),
    (held was).1 c.if-not-branch.false,
    subst (λ (e : Entry). IsNaming c.args.ranges.now c.args.of c.args.number c.args.piece e) (λ i. (c.as_slice.ensures.bytes i, c.as_slice-2.ensures.bytes i)) (c.is_naming.ensures.yes is),
  ),
))
