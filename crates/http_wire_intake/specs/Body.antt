-- What filling a buffer and reading a body give.
use Rattle.{std.specs.{Io.KnownBytes.{Consumes, IsAtEnd}, declared.alloc.Global.Global}, http_wire_intake.specs.{Draws.{Draws, Reads}, declared.fault.WireFault.WireFault}}
use Rattle.std.specs.Prelude.{◌≡◌, ℕ, ◌+◌, ◌<◌, ◌≤◌, Bool, true, false, List, [], ◌++◌, length, take, drop, Option, Some, None, Result, Ok, Err, Vec, vec_len, ◌*◌, ⊤}
use Rattle.http_wire_intake.specs.declared.intake.Intake.{Intake}
use Rattle.http_wire_intake.specs.declared.fault.WireFault.TheVariants as fault

-- the bytes that one turn gave are added; there are none at the end, which is told, and none at a fault
abbrev pub Fills : Option (List ℕ) → Option (List ℕ) → List ℕ → List ℕ → Result Bool WireFault → Type 0
Fills before after old new (Ok true) = Consumes before after [] × IsAtEnd after × (new ≡ old)
Fills before after old new (Ok false) = (more : List ℕ) × Consumes before after more × (new ≡ old ++ more) × (length more ≤ 65536)
Fills before after old new (Err e) = Consumes before after [] × (new ≡ old)

-- the first filled bytes stay, and k bytes come after them; none is the end
abbrev pub PieceCame : Option (List ℕ) → Option (List ℕ) → List ℕ → List ℕ → ℕ → Result (Option ℕ) WireFault → Type 0
PieceCame before after old new filled (Ok (Some k)) = (filled + k ≤ length new)
    × (take filled new ≡ take filled old) × Consumes before after (take k (drop filled new))
PieceCame before after old new filled (Ok None) = Consumes before after [] × IsAtEnd after
PieceCame before after old new filled (Err e) = Consumes before after []

-- the body of n bytes stands at the start of the input, and rest follows; or the input is shorter
abbrev pub BodyCame : List ℕ → ℕ → Result Bool WireFault → List ℕ → List ℕ → Type 0
BodyCame input n (Ok true) body rest = (input ≡ body ++ rest) × (length body ≡ n)
BodyCame input n (Ok false) body rest = length input < n
BodyCame input n (Err fault.Read) body rest = length input < n
BodyCame input n (Err fault.TurnLimit) body rest = length input < n
BodyCame input n (Err fault.Memory) body rest = ⊤

-- less than the whole body is told only at the reader's end
abbrev pub LacksAtEnd : Option (List ℕ) → Result Bool WireFault → Type 0
LacksAtEnd left (Ok true) = ⊤
LacksAtEnd left (Ok false) = IsAtEnd left
LacksAtEnd left (Err e) = ⊤

-- A body of n bytes is read after those that were held: the buffer holds at most twice what came, and 65,536 bytes more.
pub record ReadsBody {R : Type 0} (remaining : R → Option (List ℕ)) (turned failed : R → ℕ) (old new : Intake R) (n : ℕ) (held : List ℕ)
    (body : Vec ℕ Global) (result : Result Bool WireFault) : Type 0 where
  pub read : Reads remaining old new (λ input rest. BodyCame (held ++ input) n result body.items rest)
  pub grows : Reads remaining old new (λ input rest. vec_len body ≤ 2 * length (held ++ input) + 65536)
  pub end : LacksAtEnd (remaining new.reader.now) result
  pub draws : Draws turned failed old new result
