use Rattle.{std.proofs.{Common.{◌≡◌, List, ℕ, length, sym, ap, subst, ◌∙◌, rules}, lemmas.List.Elements.All-push}, desk_model.specs.claim.Desk.Plan}
use Rattle.{desk_store_opening.{specs.Reading.{BecomesKnown, BecomesLast, IsNext, IsWhole}, proofs.Revisions.{next_of, becomes_last}}, desk_store_pages.specs.claim.Desks.AreWithin}
use Rattle.{desk_store_rows.specs.Changes.with_revision, desk_store_opening.proofs.Within.one_more_within, desk_store_pages.proofs.Looking.{fails, finds, lacks_memory, not_looked}}
use Rattle.page_store.proofs.Stops.{quiet_none}
use Rattle.desk_store_opening.proofs.entries.with_next.Goals as goal

pub returns-in_err-before-clause-reads : goal.returns-in_err-before-clause-reads
returns-in_err-before-clause-reads g c = lacks_memory c.from_residual.result (quiet_none c.args.pages.now) c.in_err-before.ensures.err c.from_residual.ensures.1

pub returns-in_err-next-clause-reads : goal.returns-in_err-next-clause-reads
returns-in_err-next-clause-reads g c =
    let last = c.args.last.now.items in
    let before = c.in_ok-before.before in
    fails c.from_residual-in_err-next.result c.in_err-next.ensures.reads c.from_residual-in_err-next.ensures.1 (λ m is. (
      is.0,
      subst (λ (n : ℕ). IsNext c.args.geography.now n c.args.plan c.args.revision last before m is.0) (sym c.n.ensures.value) (next_of c.args.geography.now c.args.plan c.args.revision last before c.args.entry.now.1 m is.0 c.in_ok-before.ensures.last is.1),
    ))

pub returns-in-Ok-clause-whole : goal.returns-in-Ok-clause-whole
returns-in-Ok-clause-whole g c = subst (λ (e : List ℕ × _). IsWhole c.args.geography.now e.1) (sym {b = (c.args.entry.now.0, with_revision c.args.entry.now.1 c.in_ok-next.next)} c.in-Ok.ensures)
    (All-push (λ (d : List ℕ). length d ≡ length c.args.geography.now.blocks) c.args.entry.now.1.revisions c.in_ok-next.next c.requires.whole c.in_ok-next.ensures.whole)

pub returns-in-Ok-clause-reads : goal.returns-in-Ok-clause-reads
returns-in-Ok-clause-reads g c =
    let the_geography = c.args.geography.now in
    let p = c.args.entry.now.1 in
    let last = c.args.last.now.items in
    let before = c.in_ok-before.before in
    let names = c.read_next.new.last.items in
    finds c.in_ok-next.ensures.reads (λ m is. record {
      there = (
        record {
          districts = c.in_ok-next.next;
          is = ap (λ (e : List ℕ × Plan). e.1) c.in-Ok.ensures;
          parts = is.there.0.parts;
          read = λ known. is.there.0.read (known before c.in_ok-before.ensures.last);
        },
        subst (λ (e : List ℕ × _). BecomesLast the_geography c.args.plan c.args.revision last p names m e.1) (sym {b = (c.args.entry.now.0, with_revision p c.in_ok-next.next)} c.in-Ok.ensures)
            (becomes_last the_geography c.args.plan c.args.revision last before p m names c.in_ok-next.next c.in_ok-before.ensures.last
            (subst (λ (n : ℕ). BecomesKnown the_geography n c.args.plan c.args.revision last before names m c.in_ok-next.next) c.n.ensures.value is.there.1)),
      );
      read = λ x said. c.in-Ok.ensures ∙ ap (λ (l : List ℕ). (c.args.entry.now.0, with_revision p l))
          (is.read x (subst (λ (n : ℕ). IsNext the_geography n c.args.plan c.args.revision last before m x) (sym c.n.ensures.value) (next_of the_geography c.args.plan c.args.revision last before p m x c.in_ok-before.ensures.last said)));
    })

pub returns-in-Err-clause-reads : goal.returns-in-Err-clause-reads
returns-in-Err-clause-reads g c = not_looked c.in_ok-next.ensures.reads.quiet tt

pub returns-in-Ok-clause-within : goal.returns-in-Ok-clause-within
returns-in-Ok-clause-within g c = λ within.
    let p = c.args.entry.now.1 in
    let next = c.in_ok-next.ensures.within (subst (λ (n : ℕ). AreWithin n c.in_ok-before.before) (sym c.n.ensures.value) (c.in_ok-before.ensures.within within)) in
    search (rules, one_more_within)
