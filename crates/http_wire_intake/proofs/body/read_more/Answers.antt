use Rattle.{std.proofs.{Common.{◌≡◌, ◌∙◌, length, vec_len, rules, arith}, lemmas.List.places}, http_wire_intake.proofs.{BodyLemmas.body_grown, DrawsLemmas.draws_more}}
use Rattle.http_wire_intake.proofs.body.read_more.Goals as goal

pub loop-filled-preserved : goal.loop-filled-preserved
loop-filled-preserved g c =
    let piece = rw c.in-Ok-Some.field-0-is at c.in-Ok-Some.ensures.bytes in
    let before = c.loop-filled.invariant in
    let len_is : length c.read_piece.new.body.items ≡ vec_len c.read_piece.new.body = search (rules, places) in
    record {
      ordered = omega (arith, piece.0, len_is);
      within = omega (arith, c.in-Ok-Some.ensures.len, c.make_room.ensures.within);
      grows = omega (arith, c.in-Ok-Some.ensures.len, c.make_room.ensures.grows before.grows);
      came = body_grown _ _ _ c.args.body.now.items c.loop-filled.body.items c.make_room.new.body.items c.read_piece.new.body.items c.loop-filled.filled c.in-Ok-Some.k before.came c.make_room.ensures.prefix piece.1 piece.2;
      read_buffer = c.in-Ok-Some.ensures.read_buffer ∙ before.read_buffer;
      draws = draws_more _ _ _ c.loop-filled.intake c.read_piece.new.intake before.draws c.in-Ok-Some.ensures.draws.draws;
    }
