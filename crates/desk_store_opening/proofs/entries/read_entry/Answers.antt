use Rattle.{std.proofs.Common.{◌<◌, ◌≤◌, ◌+◌, List, ℕ, [], length, get_or, sym, ap, ◌∙◌, take_all, arith, rules}, desk_model.specs.{Ranges.ranges_of, claim.Desk.Plan}}
use Rattle.desk_store_opening.{specs.Reading.IsPlanRow, proofs.{Readings.one_more_read, Revisions.{comes_after, one_revision_more}}}
use Rattle.desk_store_pages.proofs.Looking.{both, fails_then, finds}
use Rattle.desk_store_opening.proofs.entries.read_entry.Goals as goal

pub returns-in_err-entry-clause-reads : goal.returns-in_err-entry-clause-reads
returns-in_err-entry-clause-reads g c =
    fails_then c.loop-before.invariant.reads c.from_residual.result c.in_err-entry.ensures.reads c.from_residual.ensures.1 (λ m so is. (
      get_or is.0.revisions c.loop-before.before [],
      comes_after c.args.geography.now c.args.name c.args.row.now m is.0 c.loop-before.before c.loop-before.last.items
          c.loop-before.entry.1 is.1 c.loop-before-test.true c.loop-before.invariant.districts (so.known is.0 is.1),
    ))

pub loop-before-preserved : goal.loop-before-preserved
loop-before-preserved g c =
    let before = c.loop-before.invariant in
    let now = c.in_ok-entry.ensures in
    let i = c.loop-before.before in
    let less = c.loop-before-test.true in
    let many = before.many in
    record {
      reads = finds (both before.reads now.reads) (λ m is.
          let after = λ (p : Plan) (said : IsPlanRow c.args.geography.now c.args.name c.args.row.now m p).
          comes_after c.args.geography.now c.args.name c.args.row.now m p i c.loop-before.last.items c.loop-before.entry.1
          said c.loop-before-test.true before.districts (is.0.known p said) in
          record {
            read = one_more_read c.args.row.now.number (ranges_of c.args.geography.now) m c.loop-before.last.items c.loop-before.entry.1 (i + 1) c.with_next.new.last.items c.in_ok-entry.entry.1 (omega arith) is.0.read is.1.there.0;
            is = λ p said.
                let many = said.revisions in
                let within : i < length p.revisions = omega arith in
                one_revision_more c.args.name p i c.loop-before.entry c.in_ok-entry.entry within (is.0.is p said) (is.1.read (get_or p.revisions i []) (after p said));
            known = λ p said. is.1.there.1 (get_or p.revisions i []) (after p said);
          });
      whole = now.whole;
      within = now.within before.within;
      named = now.named ∙ before.named;
      kind = now.sized.0 ∙ before.kind;
      districts = now.sized.1 ∙ before.districts;
      many = now.longer ∙ ap (λ n. n + 1) before.many;
      begun = before.begun ∙ sym now.reads.quiet.count;
    }

pub returns-clause-reads : goal.returns-clause-reads
returns-clause-reads g c =
    let last = c.loop-before-test.false in
    finds c.loop-before.invariant.reads (λ m is. record {
      there = record { within = c.loop-before.invariant.within; read = is.read.read };
      read = λ p said.
          let many = said.revisions in
          let end : length p.revisions ≤ c.loop-before.before = omega arith in
          is.is p said ∙ ap (λ (l : List (List ℕ)). (c.args.name, record p { revisions = l })) (take_all c.loop-before.before p.revisions end);
    })

pub returns-clause-row : goal.returns-clause-row
returns-clause-row g c = search rules
