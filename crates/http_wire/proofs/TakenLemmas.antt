-- A request that is there whole.
use Rattle.std.proofs.Common.{◌≡◌, ℕ, ◌≤◌, Bool, false, List, [], ◌++◌, length, take, drop, Ok, sym, ap, subst, ◌∙◌, append-nil, take-append-drop, length-take-le, rules}
use Rattle.{std.proofs.lemmas.Bool.cond_both, http_wire.specs.{Incoming.{Came, Taken, IsNoEnd, IsTargetOf, targeted}, Look.IsFound, claim.Prefix.HasBody, declared.look.Head.Head}}
use Rattle.http_wire.specs.{claim.Interim.{continue_text, asks_to_continue}, declared.{head.Framing.{Framing, TheVariants.Sized}, request.Request.Request}}
use Rattle.{http_wire_intake.specs.{Chunks.ChunkLaw, declared.bad_request.BadRequest.TheVariants.BadTarget}, httparse.specs.Spans.span_bytes}
use Rattle.http_wire.proofs.{InterimLemmas.found_asks, RequestLemmas.{rest_reads, out_of_memory, due}}
use Rattle.http_wire_intake.specs.declared.chunks.Chunked.TheVariants as chunked
use Rattle.http_wire.specs.declared.request.Incoming.TheVariants as came

plainly : (input : List ℕ) (found : Head) (f : IsFound input found) → found.expects ≡ false → [] ≡ continue_text (asks_to_continue f.head)
plainly input found f plain = sym (ap continue_text plain) ∙ found_asks input found f

-- the body that was cut off, and what is left
pub body_cut : (left body rest bytes start read_buffer : List ℕ) (n : ℕ) → body ≡ start ++ take n bytes → start ≡ [] → bytes ≡ read_buffer → read_buffer ≡ left → rest ≡ drop n read_buffer → n ≤ length left
    → (left ≡ body ++ rest) × (length body ≡ n)
body_cut left body rest bytes start read_buffer n e none held same tail within = search (rules, take-append-drop, length-take-le)

pub taken_whole : ChunkLaw → (input : List ℕ) (found : Head) (r : Request) (good : Bool) (n : ℕ) (rest : List ℕ) → IsFound input found → found.expects ≡ false → found.framing ≡ Sized n
    → r.method ≡ span_bytes input found.method → IsTargetOf (span_bytes input found.target) good r.target.items → r.closes ≡ found.closes → drop found.len input ≡ r.body.items ++ rest → length r.body.items ≡ n
    → Taken input (targeted r good found.head_only) rest
taken_whole law input found r good n rest f plain framing method target closes cut len =
    let body : HasBody found.framing (drop found.len input ++ []) r.body.items rest = subst (λ (m : Framing). HasBody m (drop found.len input ++ []) r.body.items rest) (sym framing) (append-nil (drop found.len input) ∙ cut, len) in
    let x = rest_reads law input [] found r good (Ok chunked.Whole) rest [] f method target closes body (plainly input found f plain) in (
      cond_both good (came.Request r) (came.Refused BadTarget found.head_only) IsNoEnd (λ _. tt) (λ _. tt),
      subst (λ (xs : List ℕ). Came xs (targeted r good found.head_only) rest []) (append-nil input) x,
    )

pub taken_out_of_memory : (input rest : List ℕ) (found : Head) → IsFound input found → found.expects ≡ false → Taken input (came.OutOfMemory found.head_only) rest
taken_out_of_memory input rest found f plain = search (rules, append-nil, out_of_memory, due, plainly)
