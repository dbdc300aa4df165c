-- What no promise rests on, beside claim/Streams.antt.
use Rattle.std.specs.Prelude.{◌≡◌, ℕ, List, [], ◌∷◌, length, reverse, Option, Some, None, Result, ⊤}
use Rattle.{desk_model.specs.{claim.Desk.Desk, declared.command.Command.Command}, http_desk_connections.specs.declared.ran.Ran.Ran}
use Rattle.{http_desk_seats.specs.claim.{Seated.{Seated, newcomer}, Streams.{Traffic, IsAskedOf, HasWorked}}, http_desk_streams.specs.declared.serve.ServeFault.ServeFault}
use Rattle.http_desk_streams.specs.declared.serve.Served.{Served}
use Rattle.byte_stream.specs.declared.source.Source as source
use Rattle.byte_stream.specs.declared.sink.Sink as sink

-- of what comes from here
abbrev pub traffic : {A R W : Type 0} → (A → ℕ → Option (R × W) → Type 0) → (A → R → W → Result Served ServeFault → Type 0)
    → source.Ghosts R → sink.Ghosts W → A → Traffic R W
traffic gives takes_back r w from =
    record {
      gives = gives from;
      takes_back = takes_back from;
      unread = r.remaining;
      failed_reads = r.failures;
      written = w.contents;
      failed_writes = w.failures;
    }

-- the places of visitors who had heard of this, each with its worker's number: the last one's is 0
abbrev pub places_of : List (List Command) → List (ℕ × Option Seated)
places_of [] = []
places_of (v ∷ visitors) = (length visitors, Some (newcomer v)) ∷ places_of visitors

-- the last visitor's place is the first
abbrev pub WereVisitors : List (List Command) → List (ℕ × Option Seated) → Type 0
WereVisitors visitors places = places ≡ places_of (reverse visitors)

-- what a stream asks for may be carried out
pub record MayBeAsked {R W : Type 0} (s : Traffic R W) (asked : Command → Type 0) : Type 0 where
  pub each : (c : Command) → IsAskedOf s c → asked c

module _ {R W : Type 0} (s : Traffic R W) (first : Desk) where
  -- what the worker of a number leaves of its place: the guest is back, and so much its streams came to
  abbrev pub LeavesPlace : (worker : ℕ) → Option Seated → Option Seated → Ran → Type 0
  LeavesPlace worker None after ran = after ≡ None
  LeavesPlace worker (Some before) after ran = (guest : Seated) × (after ≡ Some guest) × HasWorked s first worker before guest ran

  -- the same of each place, with its worker's number
  abbrev pub LeavesPlaces : List (ℕ × Option Seated) → List (Option Seated × Ran) → Type 0
  LeavesPlaces [] [] = ⊤
  LeavesPlaces (before ∷ old) (after ∷ new) = LeavesPlace before.0 before.1 after.0 after.1 × LeavesPlaces old new
  LeavesPlaces [] (after ∷ new) = ⊥
  LeavesPlaces (before ∷ old) [] = ⊥

  -- both as one fact, which closures pass on
  pub record PlaceIsLeft (worker : ℕ) (before after : Option Seated) (ran : Ran) : Type 0 where
    pub left : LeavesPlace worker before after ran

  pub record PlacesAreLeft (old : List (ℕ × Option Seated)) (new : List (Option Seated × Ran)) : Type 0 where
    pub left : LeavesPlaces old new
