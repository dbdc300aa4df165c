-- What comes in one life of a store, of each kind: what it makes of a store, and the clauses of it.
use Rattle.std.specs.Prelude.{◌≡◌, ℕ, List, [], Result}
use Rattle.{desk_model.specs.claim.Desk.Desk, desk_store_pages.specs.declared.error.StoreError.StoreError, desk_theorem.specs.claim.Exchanges.exchanges_in}
use Rattle.desk_theorem.specs.claim.{Clauses.{Account, Clauses, nothing, of_calls, of_exchanges, of_requests}, Offices.{Answered, Officed}, Streams.{Ends, Streamed, working}}
use Rattle.desk_theorem_lives.specs.{claim.{DeskLives.Lived, Versions.{Leads, MayBar, MayBeNew, Store, version_2}}, declared.desk_lives.{Answer.Answer, Request.Request}}
use Rattle.{desk_theorem_lives.specs.declared.leading.Led.Led, http_desk.specs.{connections.declared.ran.Ran.Ran, seats.claim.Streams.Traffic}}
use Rattle.http_desk.specs.streams.declared.serve.{ServeFault.ServeFault, Served.Served}

-- It was told so, and the clauses hold of what came in it, by its account.
pub record Holds {May : Type 0} (account : May → Account) (t u : ℕ) (d e : Desk) : Type 0 where
  pub told_so : May
  pub clauses : Clauses t u d (account told_so) e

-- ---- an open store is asked: what that makes of its desk
-- requests were answered so: one load, or one sweep, or any list
abbrev pub RequestsHold : List Request → List Answer → (t u : ℕ) → Desk → Desk → Type 0
RequestsHold asked told t u d e = Holds {May = Lived t u d asked told e} (λ _. of_requests asked told) t u d e

-- a stream was served, whose reader and writer were so before and after; its requests are those of its talk
abbrev pub StreamHolds : (old new : Ends) → Result Served ServeFault → (t u : ℕ) → Desk → Desk → Type 0
StreamHolds old new served t u d e = Holds {May = Streamed t u d old new served e}
    (λ is. of_exchanges (exchanges_in t u (working d) served new.unread is.input is.output is.end is.talk)) t u d e

module _ {R W : Type 0} (streams : Traffic R W) (workers : ℕ) where
  -- streams that came from there were served by so many workers until no further one came, and came to this; the requests are the commands
  -- that the office's clerk was given
  abbrev pub OfficeHolds : Ran → (t u : ℕ) → Desk → Desk → Type 0
  OfficeHolds ran t u d e = Holds {May = Answered streams workers t u d ran e} (λ is. of_calls is.did.calls is.counted.workers) t u d e

  -- memory for the seats was refused, or for what the streams came to
  abbrev pub ClosedHolds : (t u : ℕ) → Desk → Desk → Type 0
  ClosedHolds t u d e = Holds {May = Officed streams workers t u d e} (λ is. of_calls is.calls []) t u d e

-- ---- what a life makes of a store
-- one that may be of the new version is opened and asked, and is then of it
abbrev pub Asked : ((t u : ℕ) → Desk → Desk → Type 0) → (t u : ℕ) → Store → Store → Type 0
Asked life t u s e = MayBeNew s.0 × (e.0 ≡ version_2) × life t u s.1 e.1

-- it was not opened, for that, and is as it was
abbrev pub UnopenedHolds : StoreError → (t u : ℕ) → Store → Store → Type 0
UnopenedHolds why t u s e = Holds {May = MayBar t u s.0 why × (e ≡ s)} (λ _. nothing) t u s.1 e.1

-- it was read, and is as it was
abbrev pub ReadHolds : (t u : ℕ) → Store → Store → Type 0
ReadHolds t u s e = Holds {May = e ≡ s} (λ _. nothing) t u s.1 e.1

-- it was led on to the new version so far, and its desk is as it was
abbrev pub LedHolds : Led → (t u : ℕ) → Store → Store → Type 0
LedHolds far t u s e = Holds {May = Leads t u s.0 far e.0 × (e.1 ≡ s.1)} (λ _. nothing) t u s.1 e.1

-- ---- one of them
module _ {A P Q : Type 0} (streams : A → Traffic P Q) where
  pub data Came : Type 0 where
    requests : List Request → List Answer → Came
    stream : (old new : Ends) → Result Served ServeFault → Came
    office : A → (workers : ℕ) → Ran → Came
    closed : A → (workers : ℕ) → Came
    unopened : StoreError → Came
    read : Came
    led : Led → Came

  -- One life from the store s on and to the store e, on a device that had failed t times before, and u times after it.
  abbrev pub LifeHolds : Came → (t u : ℕ) → Store → Store → Type 0
  LifeHolds (Came.requests asked told) t u s e = Asked (RequestsHold asked told) t u s e
  LifeHolds (Came.stream old new served) t u s e = Asked (StreamHolds old new served) t u s e
  LifeHolds (Came.office from workers ran) t u s e = Asked (OfficeHolds (streams from) workers ran) t u s e
  LifeHolds (Came.closed from workers) t u s e = Asked (ClosedHolds (streams from) workers) t u s e
  LifeHolds (Came.unopened why) t u s e = UnopenedHolds why t u s e
  LifeHolds Came.read t u s e = ReadHolds t u s e
  LifeHolds (Came.led far) t u s e = LedHolds far t u s e
