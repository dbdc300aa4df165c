use Rattle.gal_text.proofs.RelationLemmas.{said_from_reading, reading_from_said}
use Rattle.gal_text.proofs.law.units_law.Goals as goal

pub returns : goal.returns
returns c = λ ids n ws p. (said_from_reading ids n ws p, reading_from_said ids n ws p)
