use Rattle.check_command.proofs.AtOnce.{read_on, read_no_more}
use Rattle.check_command.proofs.audit_plan.audit_of.Goals as goal

pub returns-in-Ok-clause-audits : goal.returns-in-Ok-clause-audits
returns-in-Ok-clause-audits g c = read_on g.R.Source c.args.workers c.args.files.now c.audit_blocks.new.files c.read_state_by.new.files c.args.kind c.args.districts c.in-Ok.blocks c.audit_blocks.result c.in-Ok.ensures.read c.audit_blocks.ensures.census c.audit_blocks.ensures.audits

pub returns-in-Err-clause-audits : goal.returns-in-Err-clause-audits
returns-in-Err-clause-audits g c = read_no_more g.R.Source c.args.workers c.args.files.now c.read_state_by.new.files c.args.kind c.args.districts c.in-Err.fault c.in-Err.ensures.read
