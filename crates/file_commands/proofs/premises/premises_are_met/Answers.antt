use Rattle.{sector_file.specs.Device.first_image, file_commands.proofs.JustOpened.no_premise}
use Rattle.file_commands.proofs.premises.premises_are_met.Goals as goal

pub returns-in-Ok-open_clerk : goal.returns-in-Ok-open_clerk
returns-in-Ok-open_clerk g c = no_premise (first_image g.S.Contents.sector) c.in-Ok.device c.in-Ok-open_clerk.clerk c.in-Ok.ensures.opened.0.0 c.in-Ok-open_clerk.ensures.ok c.in-Ok-open_clerk.ensures.shows
