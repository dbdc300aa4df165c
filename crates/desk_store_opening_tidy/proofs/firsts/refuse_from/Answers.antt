use Rattle.{std.{specs.List.starts_with, proofs.Common.{List, ℕ, Bool, true, false, sym, subst, ◌∙◌}}, desk_store_opening_tidy.specs.Rows.IsFirst}
use Rattle.{desk_store_opening_tidy.proofs.FirstRows.{none_at_all, none_after, one_there}, desk_store_pages.proofs.Looking.{fails, finds, refuses}}
use Rattle.desk_store_opening_tidy.proofs.firsts.refuse_from.Goals as goal

pub returns-in_err-found : goal.returns-in_err-found
returns-in_err-found g c = fails c.from_residual.result c.in_err-found.ensures c.from_residual.ensures.1 (λ m is. tt)

pub returns-then-not-found : goal.returns-then-not-found
returns-then-not-found g c = finds c.in_ok-found.ensures (λ m found.
    none_at_all m c.args.key.now c.args.prefix.now
    (subst (λ (k : List ℕ). IsFirst false k c.first_from.new.row m) c.as_slice.ensures.bytes (subst (λ (b : Bool). IsFirst b c.as_slice.result.now c.first_from.new.row m) c.if-not-found.true found)))

pub returns-then-starts_with : goal.returns-then-starts_with
returns-then-starts_with g c = refuses c.in_ok-found.ensures (λ m found none.
    let first = subst (λ (k : List ℕ). IsFirst true k c.first_from.new.row m) c.as_slice.ensures.bytes (subst (λ (b : Bool). IsFirst b c.as_slice.result.now c.first_from.new.row m) c.if-not-found.false found) in
    let on = rw c.as_slice-2.ensures.bytes at (sym c.starts_with.ensures.value ∙ c.if-starts_with.true) in
    one_there m c.args.key.now _ first.0 first.1 c.args.prefix.now c.requires.under on none)

pub returns : goal.returns
returns g c = finds c.in_ok-found.ensures (λ m found.
    let first = subst (λ (k : List ℕ). IsFirst true k c.first_from.new.row m) c.as_slice.ensures.bytes (subst (λ (b : Bool). IsFirst b c.as_slice.result.now c.first_from.new.row m) c.if-not-found.false found) in
    let off = rw c.as_slice-2.ensures.bytes at (sym c.starts_with.ensures.value ∙ c.if-starts_with.false) in
    none_after m c.args.key.now _ first.0 first.1 c.args.prefix.now c.requires.under off)
