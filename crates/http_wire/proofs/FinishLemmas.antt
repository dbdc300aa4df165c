-- What reading a request comes to once its body was read, or before it is.
use Rattle.std.proofs.{Common.{◌≡◌, ◌<◌, ◌≤◌, ℕ, Bool, true, false, List, length, drop, Option, Result, Ok, arith, length-drop, rules, Err}, lemmas.Bool.cond_both}
use Rattle.http_wire.specs.{Budget.write_failures_of, Incoming.{DrawsRequest, EndsAt, TakesSome, finished, targeted}, declared.request.Request.Request}
use Rattle.http_wire_intake.specs.{Chunked.LacksChunksAtEnd, Draws.{Draws, SameParts}, declared.{bad_request.BadRequest.TheVariants.BadTarget, chunks.Chunked.Chunked}}
use Rattle.http_wire_intake.{specs.declared.{fault.WireFault.WireFault, intake.Intake.Intake}, proofs.DrawsLemmas.same_more}
use Rattle.http_wire_intake.specs.declared.chunks.Chunked.TheVariants as chunked
use Rattle.http_wire_intake.specs.declared.fault.WireFault.TheVariants as wire
use Rattle.http_wire.specs.declared.fault.RequestFault.TheVariants as fault
use Rattle.http_wire.specs.declared.request.Incoming.TheVariants as came

pub targeted_takes : (r : Request) (good head_only : Bool) (old new : ℕ) → new < old → TakesSome (Ok (targeted r good head_only)) old new
targeted_takes r true head_only old new less = less
targeted_takes r false head_only old new less = omega arith

module _ (r : Request) (good head_only : Bool) where
  pub finish_ends : (left : Option (List ℕ)) (c : Result Chunked WireFault) → LacksChunksAtEnd left c → EndsAt left (finished r good head_only c)
  finish_ends left (Ok chunked.Whole) at = cond_both good (came.Request r) (came.Refused BadTarget head_only) (λ i. EndsAt left (Ok i)) (λ _. tt) (λ _. tt)
  finish_ends left (Ok chunked.Lacking) at = at
  finish_ends left (Err wire.Read) at = tt
  finish_ends left _ at = tt

  pub finish_writes : (n : ℕ) (c : Result Chunked WireFault) → write_failures_of n (finished r good head_only c) ≡ n
  finish_writes n (Ok chunked.Whole) = search rules
  finish_writes n _ = search rules

  -- the head was taken, and then the body
  pub finish_draws : {R : Type 0} (turned failed : R → ℕ) (a b c : Intake R) (n : ℕ) (read : Result Chunked WireFault) → 0 < n → n ≤ length a.read_buffer.now → SameParts a b → b.reader.now ≡ a.reader.now
      → b.turns.now ≡ a.turns.now → b.read_buffer.now ≡ drop n a.read_buffer.now → Draws turned failed b c read → DrawsRequest turned failed a c (finished r good head_only read)
  finish_draws {R} turned failed a b c n (Ok chunked.Whole) some within same reader turns read_buffer draws = search (rules, same_more, targeted_takes, length-drop)
  finish_draws {R} turned failed a b c n _ some within same reader turns read_buffer draws = search (rules, same_more, length-drop)
