use Rattle.{std.proofs.Common.{[], ◌∙◌}, sector_device.specs.claim.Disk.Image, geo_tables.proofs.Begun.free_count}
use Rattle.geo_tables.proofs.starts.free_pages.Goals as goal

none : Image
none = λ i. []

pub returns : goal.returns
returns c = c.free_pages.ensures none ∙ free_count c.args.txn.now none
