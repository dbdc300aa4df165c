-- What a writer holds after a write, and how often it has failed.
use Rattle.std.specs.{Io.KnownBytes.Appends, Prelude.{◌≡◌, ℕ, List, ◌++◌, Option, Result, Ok, Err}}
use Rattle.byte_stream.specs.claim.Counts.{counted}

-- all bytes, or at a fault a prefix of them
abbrev pub Sends : {A E : Type 0} → Option (List ℕ) → Option (List ℕ) → Result A E → List ℕ → Type 0
Sends old new (Ok a) bytes = Appends old new bytes
Sends old new (Err e) bytes = (prefix : List ℕ) × (rest : List ℕ) × (bytes ≡ prefix ++ rest) × Appends old new prefix

-- a fault is one failure more, and success none
abbrev pub failures_with : {A E : Type 0} → ℕ → Result A E → ℕ
failures_with n (Ok a) = n
failures_with n (Err e) = counted n 1
