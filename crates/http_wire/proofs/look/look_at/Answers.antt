use Rattle.{std.proofs.Common.{◌≤◌, ℕ, length, take, inl, inr, subst, refl, rules}, http_wire_intake.{specs.claim.Lines.head_lines, proofs.Prefixes.window_is}}
use Rattle.{httparse.specs.Spans.{RequestOverflows, RequestExceeds}, http_wire.proofs.LookLemmas.{parsed_at, exceeds_lines}}
use Rattle.http_wire.proofs.look.look_at.Goals as goal

pub after_parse-requires : goal.after_parse-requires
after_parse-requires c = search (rules, c.in-Ok-Complete.field-0-is, c.in-Ok-Complete.ensures.complete, c.in-Ok-Complete.ensures.within, c.min.ensures, c.requires, parsed_at)

pub unfinished-requires-clause-part_is : goal.unfinished-requires-clause-part_is
unfinished-requires-clause-part_is c = window_is c.args.bytes.now c.min.result c.min.ensures

pub after_error-requires-clause-part_is : goal.after_error-requires-clause-part_is
after_error-requires-clause-part_is c = window_is c.args.bytes.now c.min.result c.min.ensures

pub returns-in-Err-TooManyHeaders : goal.returns-in-Err-TooManyHeaders
returns-in-Err-TooManyHeaders c =
    let part = take c.min.result c.args.bytes.now in
    let same = window_is c.args.bytes.now c.min.result c.min.ensures in
    let many : RequestExceeds (length c.args.headers.now) part = (rw c.in-Err-TooManyHeaders.field-0-is at c.in-Err-TooManyHeaders.ensures.too_many) refl in
    let room : RequestOverflows (length c.args.headers.now) part = c.in-Err-TooManyHeaders.ensures.no_room in
    inl (
      inr (record {
        lines = subst (λ xs. 66 ≤ head_lines xs) same (exceeds_lines part (subst (λ (n : ℕ). RequestExceeds n part) c.requires many));
        exceeds = subst (RequestOverflows 64) same (subst (λ (n : ℕ). RequestOverflows n part) c.requires room);
      }),
      refl,
    )
