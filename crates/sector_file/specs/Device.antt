-- A file as a disk.
use Rattle.{std.specs.Prelude.{ℕ, List}, sector_device.specs.{Held.image_of, claim.Disk.{Disk, Image}}, sector_file.specs.declared.contents.Contents.Ghosts}
use Rattle.sector_file.specs.{Told.{first_held, replay, replay_on, after_sharing, told_disk}, declared.{device.FileDevice.FileDevice, reader.FileReader.FileReader}}

abbrev pub file_disk : {S : Type 0} {start : Ghosts S} → FileDevice S start → Disk
file_disk {start = start} f = told_disk (replay start.sector f.log.calls) f.few

-- what a reader of a shared file has read of it
abbrev pub reader_disk : {S : Type 0} {start : Ghosts S} → FileReader S start → Disk
reader_disk {start = start} r = told_disk (replay_on start.sector (after_sharing start.sector r.count) r.log.calls) r.few

-- so many sectors, as a file was opened
abbrev pub first_image : (ℕ → List ℕ) → ℕ → Image
first_image sector count = image_of (first_held sector count)
