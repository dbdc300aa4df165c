use Rattle.{std.proofs.{Common.{refl, inl, inr}, KnownBytes.{Consumes-nil, Appends-nil}}, talk_command.proofs.Living.sample_life}
use Rattle.talk_command.proofs.talk.serve_sample.Goals as goal

pub returns-in-Some-clause-serves : goal.returns-in-Some-clause-serves
returns-in-Some-clause-serves g c = inl (record { clerk = c.in-Some.clerk; keeps = c.in-Some.ensures.keeps; desk = c.in-Some.ensures.desk; working = c.in-Some.ensures.working; honest = tt; size = c.in-Some.ensures.size; journal = c.in-Some.ensures.journal; last = c.serve_clerk.new.clerk; stays_honest = tt; serves = c.serve_clerk.ensures.serves; life = sample_life _ _ _ _ _ c.in-Some.ensures.keeps c.in-Some.ensures.desk c.in-Some.ensures.working c.in-Some.ensures.size tt c.serve_clerk.ensures.life })

pub returns-in-None-clause-serves : goal.returns-in-None-clause-serves
returns-in-None-clause-serves g c = inr (record { memory = refl; reads = Consumes-nil _; writes = Appends-nil _ })
