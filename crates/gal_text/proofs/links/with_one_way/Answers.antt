use Rattle.gal_text.proofs.LinkLemmas.{first_more, lesser_more}
use Rattle.gal_text.proofs.links.with_one_way.Goals as goal

pub returns-in-None : goal.returns-in-None
returns-in-None c = λ links seen one least. first_more links seen c.args.link one (rw c.in-None.is at least)

pub returns-in-Some : goal.returns-in-Some
returns-in-Some c = λ links seen one least. rw c.first_of.ensures (lesser_more links seen c.args.link c.in-Some.other one (rw c.in-Some.is at least))
