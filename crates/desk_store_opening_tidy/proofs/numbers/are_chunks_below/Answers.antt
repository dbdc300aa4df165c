use Rattle.{std.proofs.Common.{◌<◌, ℕ, List, All, sym, subst, ◌∙◌}, desk_store_rows.proofs.ListLaws.chunks_differ}
use Rattle.desk_store_opening_tidy.proofs.numbers.are_chunks_below.Goals as goal

pub returns-in-Some-clause-above : goal.returns-in-Some-clause-above
returns-in-Some-clause-above c is numbers chunks bytes below =
    let same = chunks_differ numbers c.in-Some.numbers.items chunks c.in-Some.ensures.0 (bytes ∙ sym c.in-Some.ensures.1) in
    c.are_below.ensures.no is (subst (λ (l : List ℕ). All (λ n. n < c.args.next) l) (same ∙ sym c.as_slice.ensures.value) below)
