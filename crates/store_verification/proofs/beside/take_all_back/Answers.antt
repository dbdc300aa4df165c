use Rattle.store_verification.proofs.Lent.{three_back}
use Rattle.store_verification.proofs.beside.take_all_back.Goals as goal

pub returns : goal.returns
returns g c = three_back _ _ _ _ _ _ _ _ c.take_back.ensures c.take_back-2.ensures c.take_back-3.ensures
