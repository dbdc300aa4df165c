use Rattle.{std.proofs.Common.{refl, true}, sector_device.proofs.Held.write_touches}
use Rattle.sector_memory.proofs.memory.MemoryDevice.refuse_write.Goals as goal

pub returns-clause-touches : goal.returns-clause-touches
returns-clause-touches c =
    write_touches _ _ tt c.args.self.now.sectors.items c.args.self.now.sectors.items _ _ c.args.self.now.unsynced.items c.args.self.now.past.states c.args.i true refl (λ j off. refl)
    _ _ _ c.note.ensures c.deref.ensures.value c.deref-2.ensures.value
