use Rattle.std.{specs.List.concat, proofs.{Common.{◌≡◌, ◌<◌, ◌≤◌, ◌+◌, ◌++◌, List, ℕ, [], length, get_or, take, sym, ap, ◌∙◌, take_all, arith}, lemmas.List.append-nil}}
use Rattle.{plan_revisions.{specs.RevisionReading.AreCounties, proofs.CountyLists.{as_many, one_county_more}}, desk_store_pages.proofs.Looking.{begins, both, fails_then, finds}}
use Rattle.plan_revisions_sweeps.proofs.chunk_table.Appended.{more_on}
use Rattle.plan_revisions.proofs.revision_reads.append_counties.Goals as goal

pub returns-in_err-append_county : goal.returns-in_err-append_county
returns-in_err-append_county g c = fails_then c.loop-county.invariant.appends c.from_residual.result c.in_err-append_county.ensures c.from_residual.ensures.1 (λ m is said. said)

pub loop-county-init : goal.loop-county-init
loop-county-init g c = record { begun = c.requires.begun; appends = begins (λ m holds l said. sym (append-nil c.args.into.now.items)) }

pub loop-county-preserved : goal.loop-county-preserved
loop-county-preserved g c =
    let i = c.loop-county.county in
    let says = AreCounties c.args.numbers.now c.args.ranges.now in
    let among : (n : ℕ) → n ≡ length c.args.ranges.now → i < n = λ n same. omega arith in
    record {
      begun = c.loop-county.invariant.begun ∙ sym c.in_ok-append_county.ensures.quiet.count;
      appends = finds (both c.loop-county.invariant.appends c.in_ok-append_county.ensures) (λ m is.
          more_on says (λ l. concat (take i l)) (λ l. get_or l i []) (λ l. concat (take (i + 1) l)) c.args.into.now.items c.loop-county.into.items c.append_county.new.into.items m
          (λ l said. one_county_more l i (among (length l) (as_many c.args.ranges.now l said.long))) is.0 is.1);
    }

pub returns : goal.returns
returns g c =
    let i = c.loop-county.county in
    let end : (n : ℕ) → n ≡ length c.args.ranges.now → n ≤ i = λ n same. omega arith in
    finds c.loop-county.invariant.appends (λ m is l said. is l said ∙ ap (λ (l : List (List ℕ)). c.args.into.now.items ++ concat l) (take_all i l (end (length l) (as_many c.args.ranges.now l said.long))))
