use Rattle.{std.proofs.Common.{◌≤◌, inr, subst, refl, rules}, http_wire_intake.specs.claim.Lines.section_lines, httparse.specs.{Grammar.NeverHasSection, Spans.SectionOverflows}}
use Rattle.http_wire_intake.proofs.{ChunkLookLemmas.{trailers_at, exceeds_lines}, Prefixes.window_is}
use Rattle.http_wire_intake.proofs.trailers.look_at_trailers.Goals as goal

pub returns-in-Ok-Complete-clause-sees : goal.returns-in-Ok-Complete-clause-sees
returns-in-Ok-Complete-clause-sees c = search (rules, c.in-Ok-Complete.field-0-is, c.in-Ok-Complete.ensures.complete, c.in-Ok-Complete.ensures.within, c.min.ensures, trailers_at)

pub unfinished-requires-clause-part_is : goal.unfinished-requires-clause-part_is
unfinished-requires-clause-part_is c = window_is c.args.bytes.now c.min.result c.min.ensures

pub returns-in-Err-TooManyHeaders-clause-sees : goal.returns-in-Err-TooManyHeaders-clause-sees
returns-in-Err-TooManyHeaders-clause-sees c =
    let same = window_is c.args.bytes.now c.min.result c.min.ensures in
    let many = (rw c.in-Err-TooManyHeaders.field-0-is at c.in-Err-TooManyHeaders.ensures.too_many) refl in
    inr (record {
      lines = subst (λ xs. 65 ≤ section_lines xs) same (exceeds_lines _ many);
      exceeds = subst (SectionOverflows 64) same c.in-Err-TooManyHeaders.ensures.no_room;
    })

pub returns-in-Err-clause-sees : goal.returns-in-Err-clause-sees
returns-in-Err-clause-sees c = subst NeverHasSection (window_is c.args.bytes.now c.min.result c.min.ensures) (search rules)
