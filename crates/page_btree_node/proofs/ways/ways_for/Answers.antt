use Rattle.std.{specs.{List.starts_with, Prelude.Some}, proofs.Common.{◌≡◌, ◌≤◌, ℕ, List, length, true, nat_eq, ap, sym, subst, ◌∙◌, rules}}
use Rattle.page_btree_node.proofs.{Following.{some_of, turn_bound}, Scanning.key_there}
use Rattle.page_btree_node.proofs.ways.ways_for.Goals as goal

pub returns-then-not-starts_with : goal.returns-then-not-starts_with
returns-then-not-starts_with c =
    let first = c.in-Some.first in
    let lies = some_of _ c.in_ok-turn.turn.above first c.in-Some.is c.in_ok-turn.ensures.lies in
    record {
      ways = λ node is rises.
          let turn = some_of _ c.in_ok-turn.turn.above first c.in-Some.is (c.in_ok-turn.ensures.above node is rises) in
          (c.in_ok-turn.ensures.child node is rises, ap Some c.part-upper.ensures ∙ sym (turn_bound _ c.args.key.now node first.k first.at first.value first.end is turn lies));
      few = search rules;
      under = search rules;
      short = subst (λ (l : List ℕ). length l ≤ 72) (sym (c.part-upper.ensures ∙ key_there c.args.page.now first.at first.value first.end lies)) lies.entry.0;
      err = search rules;
    }

pub returns : goal.returns
returns c =
    let last = c.in_ok-found.found.bound in
    let there = c.in_ok-found.ensures.there in
    record {
      ways = λ node is rises. search rules;
      few = c.in_ok-found.ensures.few;
      under = λ _. subst (λ (l : List ℕ). starts_with nat_eq l c.args.prefix.now ≡ true) (sym c.part.ensures) there.under;
      short = subst (λ (l : List ℕ). length l ≤ 72) (sym (c.part.ensures ∙ key_there c.args.page.now last.at last.value last.end there.lies)) there.lies.entry.0;
      err = search rules;
    }
