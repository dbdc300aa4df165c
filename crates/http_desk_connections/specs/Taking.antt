-- What a turn takes from the reader below a connection.
use Rattle.std.specs.{Io.KnownBytes.{Consumes, Keeps, IsAtEnd}, Prelude.{◌≡◌, ◌⊎◌, ◌<◌, ◌≤◌, ◌*◌, ℕ, false, List, length, take, Option}}
use Rattle.{byte_stream.specs.declared.source.Turn.{Turn, TheVariants.{Read, Interrupted, Failed}}, http_desk_connections.specs.declared.pace.{Limits.Limits, Pace.Pace}}

-- The bytes that a turn gives are those that the reader had next, and no other ones leave it, also where the connection gives way.
abbrev pub TakesBytes : (old new : Option (List ℕ)) → Turn → (buf : List ℕ) → Type 0
TakesBytes old new (Read n) buf = Consumes old new (take n buf)
TakesBytes old new Interrupted buf = Keeps old new
TakesBytes old new Failed buf = Keeps old new

-- A turn that gives no byte where there is room for one ends the stream: the reader is at its end; or no request is under way, and the
-- connection was let go or has been silent for `keep` seconds.
abbrev pub MayEnd : (is_let_go : Type 0) → Limits → Pace → (left : Option (List ℕ)) → Turn → (buf : List ℕ) → Type 0
MayEnd is_let_go limits p left (Read n) buf =
    n ≡ 0 → 0 < length buf → IsAtEnd left ⊎ ((p.asks ≡ false) × (is_let_go ⊎ (limits.keep * 1000 ≤ p.silent)))
MayEnd is_let_go limits p left Interrupted buf = Unit {0}
MayEnd is_let_go limits p left Failed buf = Unit {0}
