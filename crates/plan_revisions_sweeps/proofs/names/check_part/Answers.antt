use Rattle.{std.{specs.Prelude.All, proofs.Common.{ℕ, sym, subst, ◌∙◌}}, desk_store_rows.specs.{RowKeys.IsKey, claim.Keys.part}, page_store.proofs.Stops.quiet_none}
use Rattle.{plan_revisions_sweeps.{specs.claim.Checks.IsHeldOrGone, proofs.Named.{entry_named, part_all, plans_list}}, desk_store_pages.proofs.Looking.{not_looked, tells}}
use Rattle.plan_revisions_sweeps.proofs.names.check_part.Goals as goal

pub returns-in_default : goal.returns-in_default
returns-in_default g c = not_looked (quiet_none c.args.pages.now) (λ honest m holds is. c.in_default.ensures is.plan is.revision is.index (c.as_slice.ensures.bytes ∙ is.key))

pub returns : goal.returns
returns g c =
    let row = c.args.row.now in
    let plan = c.in-Some.plan in
    let index = c.in-Some.index in
    let revision = c.in-Some.ensures.0 in
    let numbers = c.in-Some-read_chunks.numbers.items in
    let holder = c.go_on_with.new.holder in
    let told = subst (IsKey (part plan revision index)) c.as_slice.ensures.bytes c.in-Some.ensures.1 in
    let chunks = c.in-Some-read_chunks.ensures.0 in
    let says = c.in-Some-read_chunks.ensures.1 ∙ c.as_slice-2.ensures.bytes in
    tells c.check_numbers.result c.check_numbers.ensures (λ m u held all.
    let both = held (plans_list (IsHeldOrGone m) plan (c.args.holder.now, c.args.known.now.items) (holder, c.go_on_with.new.known.items) c.go_on_with.ensures all) in (
      entry_named m row.key row.value plan revision index numbers told chunks says (subst (All (IsHeldOrGone m plan)) c.as_slice-3.ensures.value both.0),
      subst (λ (p : ℕ). All (IsHeldOrGone m p) c.check_numbers.new.known.items) (sym c.go_on_with.ensures.0) both.1,
    )) (λ m is. subst (All (IsHeldOrGone m plan)) (sym c.as_slice-3.ensures.value) (part_all m row plan revision index numbers told chunks says is))
