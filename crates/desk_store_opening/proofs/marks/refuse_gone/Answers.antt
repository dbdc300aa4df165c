use Rattle.{std.proofs.Common.{sym, ◌∙◌, rules}, desk_store_pages.proofs.Looking.{not_looked, tells}, page_store.proofs.Stops.quiet_none}
use Rattle.desk_store_opening.proofs.marks.refuse_gone.Goals as goal

pub returns-in_default : goal.returns-in_default
returns-in_default g c = not_looked (quiet_none c.args.pages.now) (λ honest m holds kept. c.in_default.ensures kept.plan (sym kept.value ∙ sym c.as_slice.ensures.bytes))

pub returns : goal.returns
returns g c =
    let plan = c.in-Some.plan in
    tells c.refuse_row.result c.refuse_row.ensures
    (λ m _ none p fits value. search rules)
    (λ m kept. search rules)
