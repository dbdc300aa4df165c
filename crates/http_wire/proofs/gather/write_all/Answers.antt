use Rattle.{std.proofs.{Common.rules, KnownBytes.Appends-kept}, http_wire.proofs.GatherLemmas.{piece_more, piece_within, piece_prefix}}
use Rattle.http_wire.proofs.gather.write_all.Goals as goal

pub returns-in-Ok-eq0 : goal.returns-in-Ok-eq0
returns-in-Ok-eq0 g c = search (rules, c.loop-done.invariant.written, c.in-Ok-eq0.ensures.bytes, piece_prefix, piece_more)

pub loop-done-preserved-in-Ok : goal.loop-done-preserved-in-Ok
loop-done-preserved-in-Ok g c = search (rules, c.in-Ok.ensures.bound, c.loop-done.invariant.within, c.loop-done.invariant.written, c.in-Ok.ensures.bytes, piece_within, piece_more)

pub returns-then-not-is_tried_again : goal.returns-then-not-is_tried_again
returns-then-not-is_tried_again g c = search (rules, c.loop-done.invariant.written, c.in-Err.ensures.bytes, Appends-kept, piece_prefix)
