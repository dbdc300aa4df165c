use Rattle.desk_store.proofs.Opened.{reopened}
use Rattle.desk_store.proofs.clerk.Clerk.reopens.Goals as goal

pub returns : goal.returns
returns g c = reopened c.args.self.now
