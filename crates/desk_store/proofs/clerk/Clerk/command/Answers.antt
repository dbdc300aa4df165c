use Rattle.desk_store.proofs.Done.{refused_does, committed_does}
use Rattle.desk_store.proofs.clerk.Clerk.command.Goals as goal

pub returns-in-Ok : goal.returns-in-Ok
returns-in-Ok g c =
    committed_does c.args.self.now c.prepare.new.self c.commit.new.clerk c.args.command c.in-Ok.ready c.commit.result c.prepare.ensures.reads c.prepare.ensures.loading c.in-Ok.ensures.ready c.in-Ok.ensures.command c.in-Ok.ensures.room c.in-Ok.ensures.works c.commit.ensures

pub returns-in-Err : goal.returns-in-Err
returns-in-Err g c = refused_does c.args.self.now c.prepare.new.self c.args.command c.in-Err.refusal c.prepare.ensures.reads c.prepare.ensures.loading c.in-Err.ensures.err
