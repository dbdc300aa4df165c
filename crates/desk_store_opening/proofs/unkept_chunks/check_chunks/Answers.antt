use Rattle.{std.proofs.Common.{◌<◌, length, get_or, sym, ◌∙◌, arith, below_more}, desk_store_opening.specs.{Checking.IsChunkSeen, Reading.no_cut}}
use Rattle.desk_store_pages.proofs.Looking.{begins, both, fails_then, finds}
use Rattle.desk_store_opening.proofs.unkept_chunks.check_chunks.Goals as goal

pub loop-county-init : goal.loop-county-init
loop-county-init g c = record { checks = begins (λ m holds last k less. absurd (omega arith)); begun = c.requires.begun }

pub returns-in_err-check_county : goal.returns-in_err-check_county
returns-in_err-check_county g c = fails_then c.loop-county.invariant.checks c.from_residual.result c.in_err-check_county.ensures c.from_residual.ensures.1 (λ m _ is. is)

pub loop-county-preserved : goal.loop-county-preserved
loop-county-preserved g c =
    let names = c.args.names.now in
    let ranges = c.args.ranges.now in
    let county = c.loop-county.county in
    record {
      checks = finds (both c.loop-county.invariant.checks c.in_ok-check_county.ensures) (λ m is last.
          below_more (λ k. k < length ranges → IsChunkSeen c.args.n (get_or names k 0) (get_or ranges k no_cut).count m) county (is.0 last) (λ inside. is.1 (λ known. last county known inside)));
      begun = c.loop-county.invariant.begun ∙ sym c.in_ok-check_county.ensures.quiet.count;
    }

pub returns : goal.returns
returns g c = finds c.loop-county.invariant.checks (λ m is last k named inside. is last k (omega arith) inside)
