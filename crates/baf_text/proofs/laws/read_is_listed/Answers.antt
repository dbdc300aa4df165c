use Rattle.baf_text.proofs.Listing.{read_is_listed}
use Rattle.baf_text.proofs.laws.read_is_listed.Goals as goal

pub returns : goal.returns
returns c = read_is_listed
