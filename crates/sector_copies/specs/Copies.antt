-- What a copy of a device's sectors does to both devices.
use Rattle.std.specs.Prelude.{◌≡◌, ◌<◌, ℕ, Result, OnOk, Err, ⊤}
use Rattle.{sector_copies.specs.declared.fault.CopyFault.{CopyFault, TheVariants.{Unread, Unwritten}}, sector_device.specs.Disk.{IsSynced, Only}}
use Rattle.sector_device.specs.claim.Disk.{AgreeOff, Disk, Nowhere, Touches}

-- the sectors below a number
abbrev pub Below : ℕ → ℕ → Type 0
Below n i = i < n

-- So many sectors were copied, from one device to another: what is read of each was, and nothing else was written.
pub record HasCopied (n : ℕ) (source source' target target' : Disk) : Type 0 where
  pub source_sectors : source'.sectors ≡ source.sectors
  pub target_sectors : target'.sectors ≡ target.sectors
  pub read : source'.is_honest → Touches Nowhere source source'
  pub passed : source'.is_honest → source'.faults ≡ source.faults
  pub written : target'.is_honest → Touches (Below source.sectors) target target'
  pub taken : target'.is_honest → target'.faults ≡ target.faults
  pub same : source'.is_honest → target'.is_honest → (j : ℕ) → j < n → target'.reads j ≡ source.reads j

-- The target reads as the source, sector by sector, and outside of these as before.
pub record IsCopy (source target target' : Disk) : Type 0 where
  pub same : (j : ℕ) → j < source.sectors → target'.reads j ≡ source.reads j
  pub others : AgreeOff (Below source.sectors) target.reads target'.reads

-- which device failed
pub record HasFailed (source source' target target' : Disk) (result : Result ⊤ CopyFault) : Type 0 where
  pub unread : result ≡ Err Unread → source'.is_honest → source.faults < source'.faults
  pub unwritten : result ≡ Err Unwritten → target'.is_honest → target.faults < target'.faults
  pub source_calm : OnOk result (source'.is_honest → source'.faults ≡ source.faults)
  pub target_calm : OnOk result (target'.is_honest → target'.faults ≡ target.faults)

-- what became of one sector
pub record CopiesOne (i : ℕ) (source source' target target' : Disk) (result : Result ⊤ CopyFault) : Type 0 where
  pub source_sectors : source'.sectors ≡ source.sectors
  pub target_sectors : target'.sectors ≡ target.sectors
  pub read : source'.is_honest → Touches Nowhere source source'
  pub written : target'.is_honest → Touches (Only i) target target'
  pub same : source'.is_honest → target'.is_honest → OnOk result (target'.reads i ≡ source.reads i)
  pub failed : HasFailed source source' target target' result

-- what became of all of them
pub record CopiesAll (source source' target target' : Disk) (result : Result ⊤ CopyFault) : Type 0 where
  pub read : source'.is_honest → Touches Nowhere source source'
  pub written : target'.is_honest → Touches (Below source.sectors) target target'
  pub copied : source'.is_honest → target'.is_honest → OnOk result (IsCopy source target target')
  -- and a stop leaves what it reads as
  pub synced : target'.is_honest → OnOk result (IsSynced target')
  pub failed : HasFailed source source' target target' result
