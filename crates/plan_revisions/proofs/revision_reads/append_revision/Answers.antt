use Rattle.{std.proofs.Common.{◌++◌, List, ℕ, length, ap, ◌∙◌}, desk_store_pages.proofs.Looking.{fails, looks, refuses}, plan_revisions.proofs.CountyLists.{named, counties_of}}
use Rattle.plan_revisions.proofs.revision_reads.append_revision.Goals as goal

pub returns-in_err-append_names : goal.returns-in_err-append_names
returns-in_err-append_names g c = fails c.from_residual.result c.in_err-append_names.ensures c.from_residual.ensures.1 (λ m said. (said.1.has.numbers, named m c.args.plan c.args.revision c.args.ranges.now said.0 said.1))

pub returns-then-len-ranges : goal.returns-then-len-ranges
returns-then-len-ranges g c = refuses c.in_ok-append_names.ensures (λ m is said.
    let names = named m c.args.plan c.args.revision c.args.ranges.now said.0 said.1 in
    let read = is.0 said.1.has.numbers names ∙ ap (λ (l : List ℕ). l ++ said.1.has.numbers) c.clear.ensures.items in
    c.if-len-ranges.true (c.len.ensures ∙ c.append_names.new.into.ok.0 ∙ ap length read ∙ names.long))

pub returns : goal.returns
returns g c =
    let plan = c.args.plan in
    let revision = c.args.revision in
    let ranges = c.args.ranges.now in
    let numbers = c.as_slice.result.now in
    looks c.in_ok-append_names.ensures c.append_counties.result c.append_counties.ensures
    (λ m u is goes x said. goes x (counties_of m plan revision ranges x numbers said (c.as_slice.ensures.value ∙ is.0 said.has.numbers (named m plan revision ranges x said) ∙ ap (λ (l : List ℕ). l ++ said.has.numbers) c.clear.ensures.items)))
    (λ m is said. (said.0, counties_of m plan revision ranges said.0 numbers said.1 (c.as_slice.ensures.value ∙ is.0 said.1.has.numbers (named m plan revision ranges said.0 said.1) ∙ ap (λ (l : List ℕ). l ++ said.1.has.numbers) c.clear.ensures.items)))
