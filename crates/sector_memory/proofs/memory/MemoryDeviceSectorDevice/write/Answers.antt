use Rattle.{std.proofs.{Common.{[], false, ap}, lemmas.List.{length-set, get_or-set_other}}, sector_device.{specs.Held.refused, proofs.Held.write_touches}}
use Rattle.sector_memory.proofs.memory.MemoryDeviceSectorDevice.write.Goals as goal

pub returns-clause-model : goal.returns-clause-model
returns-clause-model c = λ _. (
  write_touches _ _ tt c.args.self.now.sectors.items _ _ _ c.args.self.now.unsynced.items c.args.self.now.past.states c.args.i false
      (length-set c.args.self.now.sectors.items c.args.i c.copy_from_slice.new.self) (λ j off. get_or-set_other c.args.self.now.sectors.items c.args.i j c.copy_from_slice.new.self [] off)
      _ _ _ c.note.ensures c.deref.ensures.value c.deref-2.ensures.value,
  record { failed = tt; passed = ap refused c.note.ensures },
)
