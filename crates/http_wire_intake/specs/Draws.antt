-- What a call may do to an intake.
use Rattle.std.specs.{Io.KnownBytes.{Consumes, IsAtEnd}, Prelude.{◌≡◌, ◌≢◌, ℕ, ◌≤◌, Bool, List, ◌++◌, All, Option, Result, Ok, Err, ⊤}}
use Rattle.http_wire_intake.specs.{Budget.{failures_of, reading_left, Spends}, declared.{fault.WireFault.WireFault, intake.Intake.Intake, sought.Seen.Seen}}
use Rattle.http_wire_intake.specs.declared.sought.Seen.TheVariants.{Found, Refused, Incomplete}
use Rattle.http_wire_intake.specs.declared.fault.WireFault.TheVariants as fault

-- it stays over the same reader, the same bytes and the same turns
pub record SameParts {R : Type 0} (old new : Intake R) : Type 0 where
  pub reader : new.reader.ghost_name ≡ old.reader.ghost_name
  pub read_buffer : new.read_buffer.ghost_name ≡ old.read_buffer.ghost_name
  pub turns : new.turns.ghost_name ≡ old.turns.ghost_name

-- what it can still give
abbrev pub left_of : {R : Type 0} → Intake R → ℕ
left_of i = reading_left i.turns.now i.read_buffer.now

-- A call that ended so takes turns of the budget, each one turn of the reader; the reader failed where a failed read is told, and the
-- turns are used up where that is told
pub record Draws {R A : Type 0} (turned failed : R → ℕ) (old new : Intake R) (result : Result A WireFault) : Type 0 where
  pub same : SameParts old new
  pub failures : failed new.reader.now ≡ failures_of (failed old.reader.now) result
  pub spends : Spends old.turns.now new.turns.now (turned old.reader.now) (turned new.reader.now)
  pub limit : result ≡ Err fault.TurnLimit → new.turns.now ≡ 0
  pub left : left_of new ≤ left_of old

-- the same of a call that takes no memory
pub record DrawsOnly {R A : Type 0} (turned failed : R → ℕ) (old new : Intake R) (result : Result A WireFault) : Type 0 where
  pub draws : Draws turned failed old new result
  pub never : result ≢ Err fault.Memory

-- the bytes that it held and those that came since are this input, of which the rest is held
abbrev pub Reads : {R : Type 0} → (R → Option (List ℕ)) → (old new : Intake R) → ((input rest : List ℕ) → Type 0) → Type 0
Reads remaining old new Says = (more : List ℕ) × Consumes (remaining old.reader.now) (remaining new.reader.now) more
    × Says (old.read_buffer.now ++ more) new.read_buffer.now

-- this is said of a prefix of the bytes, and those after it may come without a look
pub record IsPutOff (Says : List ℕ → Type 0) (waits : ℕ → Type 0) (bytes : List ℕ) : Type 0 where
  pub prefix : List ℕ
  pub unread : List ℕ
  pub cut : bytes ≡ prefix ++ unread
  pub says : Says prefix
  pub all : All waits unread

-- a fault came with no look due since
abbrev pub AddsWaiting : (ℕ → Type 0) → List ℕ → List ℕ → Result Bool WireFault → Type 0
AddsWaiting waits old new (Ok ended) = ⊤
AddsWaiting waits old new (Err e) = (unread : List ℕ) × (new ≡ old ++ unread) × All waits unread

-- what is known of the bytes once looking for a part has ended so: at a fault more were wanted when they were last looked at
abbrev pub SeesPrefix : {A E : Type 0} → (List ℕ → Seen A E → Type 0) → (ℕ → Type 0) → List ℕ → Result (Seen A E) WireFault → Type 0
SeesPrefix sees waits bytes (Ok seen) = sees bytes seen
SeesPrefix sees waits bytes (Err e) = IsPutOff (λ prefix. sees prefix Incomplete) waits bytes

-- more bytes are wanted in vain only at the reader's end
abbrev pub WantsAtEnd : {A E : Type 0} → Option (List ℕ) → Result (Seen A E) WireFault → Type 0
WantsAtEnd left (Ok (Found a)) = ⊤
WantsAtEnd left (Ok (Refused e)) = ⊤
WantsAtEnd left (Ok Incomplete) = IsAtEnd left
WantsAtEnd left (Err e) = ⊤
