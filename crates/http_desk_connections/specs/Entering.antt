-- Who comes in at a door: so many connections are given to workers, and each but once.
use Rattle.std.specs.Prelude.{◌≡◌, ◌+◌, ◌<◌, Bool, true, false, Option, None}
use Rattle.http_desk_connections.specs.declared.door.{QueueState.QueueState, Visit.Visit}

-- where none is left nothing changes; else one fewer is
pub record HasBegun (old : QueueState) (begun : Bool) (new : QueueState) : Type 0 where
  pub none : old.left ≡ 0 → (begun ≡ false) × (new ≡ old)
  pub some : 0 < old.left → (begun ≡ true) × (new.left + 1 ≡ old.left) × (new.stream ≡ old.stream) × (new.is_shut ≡ old.is_shut) × (new.inside ≡ old.inside)

-- the connection that had come is given, and is there no longer
pub record HasEnded (old : QueueState) (given : Option Visit) (new : QueueState) : Type 0 where
  pub told : given ≡ old.stream
  pub gone : new.stream ≡ None
  pub left : new.left ≡ old.left
  pub shut : new.is_shut ≡ old.is_shut
  pub inside : new.inside ≡ old.inside
