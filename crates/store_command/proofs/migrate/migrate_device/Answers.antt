use Rattle.store_command.proofs.Migrated.{device_migrated}
use Rattle.store_command.proofs.migrate.migrate_device.Goals as goal

pub returns : goal.returns
returns g c =
    device_migrated c.args.device c.in-Ok.migration c.in-Ok.ensures.ok c.in-Ok.ensures.begins c.one_desk_opens.ensures c.migrate_all-migrated.new.migration c.migrate_all-migrated.result c.migrate_all-migrated.ensures c.into_device.result c.into_device.ensures
