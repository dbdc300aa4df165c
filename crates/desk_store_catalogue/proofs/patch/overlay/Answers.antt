use Rattle.{std.proofs.Common.rules, desk_store_catalogue.proofs.Overlays.laid_over}
use Rattle.desk_store_catalogue.proofs.patch.overlay.Goals as goal

pub returns : goal.returns
returns c = search (rules, laid_over)
