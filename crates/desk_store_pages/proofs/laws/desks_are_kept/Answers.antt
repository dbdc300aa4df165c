use Rattle.desk_store_pages.proofs.DeskLaws.{begun_desk, prepared_desk}
use Rattle.desk_store_pages.proofs.laws.desks_are_kept.Goals as goal

pub returns-clause-begun : goal.returns-clause-begun
returns-clause-begun c = λ new. begun_desk {new = new}

pub returns-clause-prepared : goal.returns-clause-prepared
returns-clause-prepared c = λ new. prepared_desk {new = new}
