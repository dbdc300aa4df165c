use Rattle.{std.{specs.Prelude.{Option, Some}, proofs.Common.{◌∷◌, ℕ, List, refl, ap, sym, subst, ◌∙◌, arith, option_copied, rules}}, page_btree_gets.specs.Seeking.AreWays}
use Rattle.page_btree_gets.proofs.Following.{ways_of, three_of}
use Rattle.page_btree_gets.proofs.seeks.ways_in.Goals as goal

pub returns-in-None-clause-ways : goal.returns-in-None-clause-ways
returns-in-None-clause-ways c = λ node at rises.
    let ways = c.in_ok-ways.ways in
    let few = c.in_ok-ways.ensures.few in
    let all = subst (λ (b : Option (List ℕ)). AreWays ways.more c.args.key.now node.entries (ways.child ∷ c.ways_for.new.after) b) (ap option_copied c.in-None.is) (ways_of _ node.entries c.args.key.now ways.child ways.more c.ways_for.new.after _ (omega arith) (c.in_ok-ways.ensures.ways node at rises)) in
    search (rules, three_of)

pub returns-in-Some-clause-ways : goal.returns-in-Some-clause-ways
returns-in-Some-clause-ways c = λ node at rises.
    let ways = c.in_ok-ways.ways in
    let few = c.in_ok-ways.ensures.few in
    let is = ap option_copied c.in-Some.is ∙ ap Some (sym c.set.ensures) in
    let all = subst (λ (b : Option (List ℕ)). AreWays ways.more c.args.key.now node.entries (ways.child ∷ c.ways_for.new.after) b) is (ways_of _ node.entries c.args.key.now ways.child ways.more c.ways_for.new.after _ (omega arith) (c.in_ok-ways.ensures.ways node at rises)) in
    record {
      bound = Some c.set.new.self;
      ways = subst (λ (l : List ℕ). AreWays ways.more c.args.key.now node.entries (ways.child ∷ l) (Some c.set.new.self)) (three_of c.ways_for.new.after (omega arith)) all;
      bound_is = refl;
    }
