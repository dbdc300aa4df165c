use Rattle.{std.proofs.Common.{◌≤◌, inl, inr, subst, refl, arith, rules}, http_wire_intake.specs.claim.Lines.head_lines, httparse.specs.Grammar.{HasNoRequest, MayBecomeRequest}}
use Rattle.http_wire.proofs.LookLemmas.{overflows_at}
use Rattle.http_wire.proofs.look.unfinished.Goals as goal

pub returns-then-bytes-ge-HEAD_LIMIT : goal.returns-then-bytes-ge-HEAD_LIMIT
returns-then-bytes-ge-HEAD_LIMIT c = inl (
  inl (record {
    long = omega (arith, c.if-bytes-ge-HEAD_LIMIT.true);
    none = subst HasNoRequest c.requires.part_is c.requires.none;
    goes_on = subst MayBecomeRequest c.requires.part_is c.requires.goes_on;
  }),
  refl,
)

pub returns-then-head_lines : goal.returns-then-head_lines
returns-then-head_lines c =
    let lines : 66 ≤ head_lines c.args.part.now = omega (arith, c.head_lines.ensures, c.if-head_lines.true) in
    inl (inr (search (rules, c.requires.part_is, c.requires.none, lines, overflows_at)), refl)
