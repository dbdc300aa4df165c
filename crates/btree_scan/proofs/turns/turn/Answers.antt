use Rattle.{std.proofs.Common.{List, [], ℕ, ◌+◌, length, sym, ap, subst, ◌∙◌, rules}, page_btree.specs.node.{Walking.IsAhead, claim.{Entries.Entry, Node.IsNode}}}
use Rattle.btree_scan.proofs.{Leaves.next_leaf, Ready.all_from_nothing}
use Rattle.page_btree.proofs.gets.Seeking.{from_all}
use Rattle.page_btree.proofs.node.PageEdits.{refused}
use Rattle.btree_scan.proofs.turns.turn.Goals as goal

pub returns-in_err-place-clause-refused : goal.returns-in_err-place-clause-refused
returns-in_err-place-clause-refused c = refused c.from_residual.result _ (λ rows are.
    let next = next_leaf (c.args.held.now.which + 1) c.args.leaf.now.more c.args.held.now.pages rows c.requires are in
    c.in_err-place.ensures.err (record { level = 0; entries = next.here }) (subst (λ (page : List ℕ). IsNode page (record { level = 0; entries = next.here })) (sym c.page.ensures) next.node))

pub returns-clause-turned : goal.returns-clause-turned
returns-clause-turned c = λ rows are.
    let next = next_leaf (c.args.held.now.which + 1) c.args.leaf.now.more c.args.held.now.pages rows c.requires are in
    let node = subst (λ (page : List ℕ). IsNode page (record { level = 0; entries = next.here })) (sym c.page.ensures) next.node in
    let placed = c.in_ok-place.ensures.place (record { level = 0; entries = next.here }) node next.rises in
    let all = from_all [] next.here (all_from_nothing next.here) in
    let ahead = subst (λ (page : List ℕ). IsAhead page c.in_ok-place.place.at next.here) c.page.ensures (subst (λ (es : List Entry). IsAhead c.page.result.now c.in_ok-place.place.at es) all placed.0) in
    let left = placed.1 ∙ ap (λ (es : List Entry). length es) all in
    search rules
