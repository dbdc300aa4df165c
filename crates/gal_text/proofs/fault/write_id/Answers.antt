use Rattle.{std.proofs.{Common.rules, Output.has_written_of_eq}, gal_text.proofs.Texts.{padded_id, block_shown}}
use Rattle.gal_text.proofs.fault.write_id.Goals as goal

pub returns : goal.returns
returns g c = search (rules, c.laid_out.ensures, c.number.ensures, c.write.ensures.writes, padded_id, has_written_of_eq, block_shown)
