use Rattle.desk_store_pages.proofs.Looking.{tells}
use Rattle.geo_tables.proofs.reads.append_next.Goals as goal

pub returns : goal.returns
returns g c = tells c.append_element.result c.append_element.ensures (λ m u adds found. adds) (λ m is. is.1)
