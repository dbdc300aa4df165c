use Rattle.{std.proofs.{Common.{rules, append_assoc}, Output.has_written_of_eq}, gal_text.proofs.Texts.{padded_id, block_shown}}
use Rattle.gal_text.proofs.fault.write_ids.Goals as goal

pub returns : goal.returns
returns g c = search (rules, c.laid_out.ensures, c.number.ensures, c.laid_out-2.ensures, c.number-2.ensures, c.write.ensures.writes, padded_id, has_written_of_eq, append_assoc, block_shown)
