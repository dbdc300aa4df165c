-- What waits to be written.
use Rattle.std.specs.Prelude.{◌≡◌, ◌<◌, ◌≤◌, ◌==◌, ◌&&◌, Bool, List, [], ◌∷◌, ◌++◌, length, None, is_none}
use Rattle.{byte_stream.specs.claim.Counts.counted, connection_log.specs.declared.{line.LogLine.LogLine, waiting.{Taken.Taken, Waiting.Waiting}}}

-- nothing waits to be written, and nothing is to be told as dropped
abbrev pub has_nothing : Waiting → Bool
has_nothing waiting = (length waiting.batch.list.items == 0) && (waiting.refused == 0) && is_none waiting.end

-- a line is the last of those that wait where fewer than 1,024 do; else one more found no room, and those that wait stay
pub record HasPut (old : Waiting) (c : LogLine) (new : Waiting) : Type 0 where
  pub room : length old.batch.list.items < 1024 → (new.batch.list.items ≡ old.batch.list.items ++ c ∷ []) × (new.refused ≡ old.refused)
  pub full : 1024 ≤ length old.batch.list.items → (new.batch.list.items ≡ old.batch.list.items) × (new.refused ≡ counted old.refused 1)
  pub end : new.end ≡ old.end
  pub over : new.is_over ≡ old.is_over

-- all that waited was taken
pub record HasTaken (old : Waiting) (lines : List LogLine) (taken : Taken) (new : Waiting) : Type 0 where
  pub list : lines ≡ old.batch.list.items
  pub refused : taken.refused ≡ old.refused
  pub end : taken.end ≡ old.end
  pub none : new.batch.list.items ≡ []
  pub zero : new.refused ≡ 0
  pub endless : new.end ≡ None
  pub over : new.is_over ≡ old.is_over
