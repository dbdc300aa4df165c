use Rattle.baf_text.proofs.Nearby.{hundreds_of}
use Rattle.baf_text.proofs.near.LastHead.keep.Goals as goal

pub invariant_of-self : goal.invariant_of-self
invariant_of-self c = rw (c.copy_from_slice.ensures.after, c.number.ensures) (hundreds_of c.args.text.now c.args.id c.requires)
