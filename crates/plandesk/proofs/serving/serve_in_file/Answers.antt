use denote.Param.Send.{sendable}
use Rattle.{std.proofs.{Common.{◌≡◌, ◌∙◌, false}, Crossing.crosses}, file_commands.specs.Premises.IsJustOpened, sector_file.specs.Device.{file_disk, first_image}}
use Rattle.{sector_file.proofs.Sending.{record_send, record_sync}, serve_command.proofs.Living.serves_life}
use Rattle.plandesk.proofs.serving.serve_in_file.Goals as goal

pub serve-served-requires-send-D : goal.serve-served-requires-send-D
serve-served-requires-send-D = search (sendable, crosses, record_send) depth 40

pub serve-served-requires-sync-D : goal.serve-served-requires-sync-D
serve-served-requires-sync-D = search (sendable, crosses, record_sync) depth 40

pub returns : goal.returns
returns g c = serves_life _ _ _ _ _ _ _ _ (λ device. IsJustOpened (first_image g.S.Contents.sector) (file_disk device)) (λ o. o.is_opened ≡ false) (λ before name d after is. is.0.0) (λ before name f after is fresh. is.1.1 ∙ fresh)
    _ _ c.requires.fresh _ _ _ _ _ _ _ c.serve-served.ensures
