-- Steps of a reader, one after the other.
use Rattle.std.{specs.Io.KnownBytes.{Consumes, Keeps}, proofs.{Common.{◌≡◌, ℕ, ◌+◌, List, [], Option, arith}, KnownBytes.{Consumes-kept, Consumes-nil}}}
use Rattle.byte_stream.specs.{Reading.CountsFrom, claim.Counts.counted}

pub Consumes-keeps : (a b : Option (List ℕ)) → Keeps a b → Consumes a b []
Consumes-keeps a b kept = Consumes-kept a a b [] (Consumes-nil a) kept

-- one more turn on both sides
pub counts_more : (first turns source now more next : ℕ) → CountsFrom first turns source → now ≡ turns → more ≡ now + 1 → next ≡ counted source 1 → CountsFrom first more next
counts_more first turns source now more next before same one step = omega (arith, before, step)
