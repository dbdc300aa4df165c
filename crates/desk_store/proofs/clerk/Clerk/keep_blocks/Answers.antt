use Rattle.{std.proofs.Common.◌∙◌, desk_store.proofs.Settled.{same_clerk, settled_clerk}}
use Rattle.desk_store.proofs.clerk.Clerk.keep_blocks.Goals as goal

pub returns-in-Some : goal.returns-in-Some
returns-in-Some g c = settled_clerk c.args.self.now c.keep_blocks.new.self (c.keep_blocks.ensures ∙ c.in-Some.ensures.value) _

pub returns-in_default : goal.returns-in_default
returns-in_default g c = same_clerk c.args.self.now _
