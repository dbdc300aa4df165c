use Rattle.{std.proofs.{Common.{rules, ◌≡◌, ◌∙◌, ℕ, List, set, ap, sym}, lemmas.List.get_or_default}, gate_journal.specs.claim.{Store.overlay, Writes.writes_of}}
use Rattle.gate_journal.proofs.{Images.writes_at, Overlays.{overlay_set, writes_set, overlay_last}}
use Rattle.gate_journal.proofs.writes.PageWrites.edit.Goals as goal

pub returns : goal.returns
returns g c =
    let ws = writes_of c.args.self.now in
    let last = c.in_ok-k.ensures in
    let there = c.index_mut-write.ensures.value ∙ get_or_default ws c.in_ok-k.k _ _ last.below in
    let same = ap (λ (w : ℕ × List ℕ). w.0) there in
    let at : c.index_mut-write.result.now.0 ≡ c.args.page = same ∙ last.here in
    record {
      edited = (
        search (rules, writes_at),
        record {
          before = c.index_mut-write.result.now.1;
          after = c.change.new.arg2;
          before_is = λ P. overlay_last ws P c.args.page c.in_ok-k.k last ∙ sym (ap (λ (w : ℕ × List ℕ). w.1) there);
          steps = search rules;
          put_is = λ P p. ap (λ (x : ℕ). overlay (set ws c.in_ok-k.k (x, c.change.new.arg2)) P p) at ∙ overlay_set ws P c.args.page c.in_ok-k.k p c.change.new.arg2 last;
        },
      );
      within = search rules;
      same = search rules;
      noted = λ q any. writes_set ws c.in_ok-k.k c.index_mut-write.result.now.0 c.change.new.arg2 same q any;
      room = search rules;
    }
