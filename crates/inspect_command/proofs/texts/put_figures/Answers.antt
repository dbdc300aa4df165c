use Rattle.std.proofs.Common.{◌≡◌, ◌++◌, ◌∙◌, ℕ, List, ap, append_assoc}
use Rattle.inspect_command.proofs.texts.put_figures.Goals as goal

two : {b c : List ℕ} (a f g : List ℕ) → b ≡ a ++ f → c ≡ b ++ g → c ≡ a ++ (f ++ g)
two a f g one next = next ∙ ap (λ (l : List ℕ). l ++ g) one ∙ append_assoc a f g

pub returns : goal.returns
returns c =
    let start = c.args.text.now.items in
    let store = two start _ _ c.in_ok-push_first.ensures c.in_ok-push_store.ensures in
    let rows = two start _ _ (two start _ _ store c.in_ok-push_desk.ensures) c.in_ok-push_rows.ensures in
    let needs = two start _ _ (two start _ _ (two start _ _ rows c.in_ok-push_need.ensures) c.in_ok-push_need-2.ensures) c.in_ok-push_need-3.ensures in
    two start _ _ needs c.in_ok-push_end.ensures
