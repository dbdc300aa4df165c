use Rattle.{std.proofs.Common.◌∙◌, key_order.proofs.Comparing.eight_are}
use Rattle.key_order.proofs.keys.word_at.Goals as goal

pub returns : goal.returns
returns c = c.from_be_bytes.ensures ∙ eight_are c.args.bytes.now c.args.at c.requires
