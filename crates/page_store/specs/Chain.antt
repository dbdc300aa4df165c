-- What no promise rests on, beside claim/Chain.antt.
use Rattle.std.specs.Prelude.{◌≡◌, ℕ}
use Rattle.{gate_journal.specs.claim.Store.word, sector_device.specs.claim.Disk.Image}

-- what the meta page says
pub record IsMeta (P : Image) (root first count : ℕ) : Type 0 where
  pub root_is : word (P 0) 0 ≡ root
  pub first_is : word (P 0) 1 ≡ first
  pub count_is : word (P 0) 2 ≡ count
