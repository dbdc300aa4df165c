-- Kinds of errors for which the system refuses a call on a file.
use Rattle.std.specs.{Prelude.{◌≡◌, ◌⊎◌}, declared.io.ErrorKind.ErrorKind}
use Rattle.std.specs.declared.io.ErrorKind.TheVariants.{PermissionDenied, ReadOnlyFilesystem, IsADirectory, StorageFull, QuotaExceeded, FileTooLarge, NotFound}
use Rattle.sector_file.specs.declared.error.FileError.{FileError}
use Rattle.sector_file.specs.declared.error.FileError.TheVariants as error

-- it may not be read and written
abbrev pub IsDenial : ErrorKind → Type 0
IsDenial kind = (kind ≡ PermissionDenied) ⊎ (kind ≡ ReadOnlyFilesystem) ⊎ (kind ≡ IsADirectory)

-- the disk, or what its user may have of it, is full
abbrev pub IsWantOfSpace : ErrorKind → Type 0
IsWantOfSpace kind = (kind ≡ StorageFull) ⊎ (kind ≡ QuotaExceeded) ⊎ (kind ≡ FileTooLarge)

-- a file that isn't there and one that isn't permitted are told so, and nothing else is
pub record TellsAccess (kind : ErrorKind) (told : FileError) : Type 0 where
  pub none : kind ≡ NotFound → told ≡ error.NotFound
  pub denied : kind ≡ PermissionDenied → told ≡ error.NotPermitted
  pub read_only : kind ≡ ReadOnlyFilesystem → told ≡ error.NotPermitted
  pub folder : kind ≡ IsADirectory → told ≡ error.NotPermitted
  pub only_denied : told ≡ error.NotPermitted → IsDenial kind
  pub only_none : told ≡ error.NotFound → kind ≡ NotFound

-- so is want of space
pub record TellsSpace (kind : ErrorKind) (told : FileError) : Type 0 where
  pub full : kind ≡ StorageFull → told ≡ error.NoSpace
  pub quota : kind ≡ QuotaExceeded → told ≡ error.NoSpace
  pub too_large : kind ≡ FileTooLarge → told ≡ error.NoSpace
  pub only_full : told ≡ error.NoSpace → IsWantOfSpace kind
