use Rattle.talk_command.proofs.Living.{stream_life}
use Rattle.talk_command.proofs.serve.serve_clerk.Goals as goal

pub returns-clause-serves : goal.returns-clause-serves
returns-clause-serves g c =
    let talk = c.serve.ensures.talks in record {
      input = talk.0;
      output = talk.1;
      reads = talk.2;
      writes = talk.3;
      serves = talk.4;
      survives = c.streams_survive.ensures c.serve.result _ talk.0 talk.1 c.serve.new.counter talk.4;
    }

pub returns-clause-life : goal.returns-clause-life
returns-clause-life g c =
    stream_life c.args.clerk.now c.serve.new.counter _ _ c.serve.result c.serve.ensures.talks (record { reads = c.serve.ensures.read_failures; writes = c.serve.ensures.write_failures; turns = c.serve.ensures.turn_limit })
