use Rattle.{std.proofs.Common.{◌≡◌, ◌++◌, List, ℕ, length, ap, sym, subst, ◌∙◌, arith}, desk_store_opening.specs.{Checking.AreChunksSeen, plan_revisions.RevisionReading.HasParts}}
use Rattle.{desk_store_pages.proofs.Looking.{both, fails_then, finds, not_looked}, page_store.proofs.Stops.quiet_none}
use Rattle.desk_store_opening.proofs.unkept_revisions.check_revision.Goals as goal

pub returns-in_default : goal.returns-in_default
returns-in_default g c = not_looked (quiet_none c.args.pages.now) tt

pub check_chunks-requires-clause-each : goal.check_chunks-requires-clause-each
check_chunks-requires-clause-each g c = let long = c.as_slice.ensures.len in let same = c.len.ensures in let many = c.if-len-ranges.false in omega arith

pub returns-in_err-check_chunks : goal.returns-in_err-check_chunks
returns-in_err-check_chunks g c = fails_then c.in_ok-append_names.ensures c.from_residual-in_err-check_chunks.result c.in_err-check_chunks.ensures c.from_residual-in_err-check_chunks.ensures.1 (λ m read is. is)

pub returns : goal.returns
returns g c =
    let n = c.args.n in
    let ranges = c.args.ranges.now in
    let read = c.append_names.new.into.items in
    finds (both c.in_ok-append_names.ensures c.in_ok-check_chunks.ensures) (λ m is.
    let parts = is.0.1 in
    let numbers : read ≡ parts.xs = parts.is ∙ ap (λ (l : List ℕ). l ++ parts.xs) c.in-Ok.ensures.items in (
      subst (λ (l : List ℕ). HasParts c.args.plan c.args.revision (length ranges) m l) (sym numbers) parts.stands,
      λ last. subst (λ (l : List ℕ). AreChunksSeen n ranges l m) c.as_slice.ensures.value
          (is.1 (subst (λ (l : List ℕ). AreChunksSeen n ranges l m) (sym c.as_slice-2.ensures.value) last)),
    ))
