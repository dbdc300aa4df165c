use Rattle.{std.proofs.Common.rules, gate_journal.proofs.{Commit.{brought_home, found_open, home_leaves, close_leaves, closed_pages, closed_settled}, Quiet.opens_so}}
use Rattle.gate_journal.proofs.recovery.bring_back.Goals as goal

pub returns-in_err-copy_back : goal.returns-in_err-copy_back
returns-in_err-copy_back g c = opens_so (search rules) (search rules) (search rules) (λ honest synced is_open counted store.
    let back = c.in_err-copy_back.ensures.model honest counted (store.list is_open) in
    let moment = home_leaves (found_open _ _ _ store synced is_open) _ back.touches in
    search rules)

pub returns-in_err-sync : goal.returns-in_err-sync
returns-in_err-sync g c = opens_so (search rules) (search rules) (search rules) (λ honest synced is_open counted store.
    let s = c.in_err-sync.ensures.model honest in
    let back = brought_home _ _ _ _ _ _ (c.in_ok-copy_back.ensures.model s.0.was_honest counted (store.list is_open)) s tt in
    let moment = home_leaves (found_open _ _ _ store synced is_open) _ back.touches in
    search rules)

pub returns-in_err-set_gate : goal.returns-in_err-set_gate
returns-in_err-set_gate g c = opens_so (search rules) (search rules) (search rules) (λ honest synced is_open counted store.
    let last = c.set_gate.ensures.model honest in
    let s = c.in_ok-sync.ensures.model last.touches.was_honest in
    let back = brought_home _ _ _ _ _ _ (c.in_ok-copy_back.ensures.model s.0.was_honest counted (store.list is_open)) s (c.in_ok-sync.ensures.synced last.touches.was_honest) in
    let moment = close_leaves (found_open _ _ _ store synced is_open) _ _ back.touches back.done last.touches in
    search rules)

pub returns : goal.returns
returns g c = opens_so (search rules) (search rules) (search rules) (λ honest synced is_open counted store.
    let last = c.in_ok-set_gate.ensures.model honest in
    let s = c.in_ok-sync.ensures.model last.touches.was_honest in
    let back = brought_home _ _ _ _ _ _ (c.in_ok-copy_back.ensures.model s.0.was_honest counted (store.list is_open)) s (c.in_ok-sync.ensures.synced last.touches.was_honest) in
    let found = found_open _ _ _ store synced is_open in
    let moment = close_leaves found _ _ back.touches back.done last.touches in
    let settled = closed_settled found _ _ back.touches back.done last.touches last.done in
    let after = closed_pages found _ _ back.touches back.done last.touches last.done in
    search rules)
