-- A head that has come, and then its body.
use Rattle.{std.proofs.Common.{◌≡◌, ℕ, Bool, true, false, List, ◌++◌, drop, Result, Ok, Err, refl, sym, ap, ◌∙◌, inl, append_assoc, rules}, http_wire.specs.Framed.BodyRead}
use Rattle.http_wire.specs.{Incoming.{ReadsPrefix, IsTargetOf, finished, targeted}, Look.IsFound, claim.Interim.{Interim, continue_text, asks_to_continue}, declared.look.Head.Head}
use Rattle.http_wire.specs.claim.Prefix.{HasHead, HasMessage, HasRequest, HasBody, HasFault, Lacks, IsFaulty, IsIncomplete, IsOutOfMemory, closes_after, is_head}
use Rattle.{http_wire.specs.declared.{head.Framing.Framing, request.Request.Request}, http_wire_intake.specs.{Chunks.ChunkLaw, declared.bad_request.BadRequest.BadRequest}}
use Rattle.{http_wire_intake.specs.declared.{chunks.Chunked.Chunked, fault.WireFault.WireFault}, httparse.specs.{Grammar.{RequestHead, print_request}, Spans.span_bytes}}
use Rattle.{http_wire.proofs.TargetTexts.target_ascii, httparse.proofs.GrammarLemmas.ReadsRequest-append}
use Rattle.http_wire_intake.specs.declared.fault.WireFault.TheVariants as fault
use Rattle.http_wire_intake.specs.declared.chunks.Chunked.TheVariants as chunked
use Rattle.http_wire.specs.declared.head.Framing.TheVariants as framing

pub head_before : (input : List ℕ) (h : RequestHead) (rest more : List ℕ) → HasHead input h rest → HasHead (input ++ more) h (rest ++ more)
head_before input h rest more s = record { reads = ReadsRequest-append input h rest more s.reads; short = s.short; few = s.few }

-- less than the body has come
lacks : (input more : List ℕ) (found : Head) → IsFound input found → Lacks found.framing (drop found.len input ++ more) → IsIncomplete (input ++ more)
lacks input more found f short = search (rules, head_before)

-- memory is wanting for it
pub out_of_memory : (input more : List ℕ) (found : Head) → IsFound input found → IsOutOfMemory (input ++ more) found.head_only
out_of_memory input more found f =
    let stands = head_before input f.head (drop found.len input) more f.stands in
    record { head = f.head; rest = drop found.len input ++ more; framing = found.framing; stands = stands; judges = f.judges; shown = f.shown }

-- what has come of the body has a fault
faulty : (input more : List ℕ) (found : Head) (f : BadRequest) → IsFound input found → IsFaulty found.framing (drop found.len input ++ more) f → HasFault (input ++ more) f found.head_only
faulty input more found fault f x = search (rules, head_before)

-- the body has come
whole : (input more : List ℕ) (found : Head) (body rest : List ℕ) → (f : IsFound input found) → HasBody found.framing (drop found.len input ++ more) body rest → HasMessage (input ++ more) f.head body rest
whole input more found body rest f stands = search (rules, head_before)

-- the prefix of the bytes that a body is
body_prefix : ChunkLaw → (m : Framing) (text b r : List ℕ) → HasBody m text b r → (prefix : List ℕ) × (text ≡ prefix ++ r) × ((more : List ℕ) → HasBody m (prefix ++ more) b more)
body_prefix law (framing.Sized n) text b r x = (b, x.0, λ more. (refl, x.1))
body_prefix law framing.Chunked text b r x = law.body_prefix 0 text b r x

pub request_prefix : ChunkLaw → (input : List ℕ) (h : RequestHead) (t b r : List ℕ) → HasRequest input h t b r → (prefix : List ℕ) × (input ≡ prefix ++ r) × ((more : List ℕ) → HasRequest (prefix ++ more) h t b more)
request_prefix law input h t b r x =
    let m = x.message in
    let body = body_prefix law m.framing m.text b r m.stands in
    let head = print_request h in (
      head ++ body.0,
      m.head.reads.1 ∙ ap (λ (xs : List ℕ). head ++ xs) body.1 ∙ sym (append_assoc head body.0 r),
      λ more. search (rules, append_assoc),
    )

-- what a head asks for is due before the answer
pub due : (input more sent : List ℕ) (found : Head) (f : IsFound input found) → sent ≡ continue_text (asks_to_continue f.head) → Interim (input ++ more) sent
due input more sent found f asked =
    inl (record { head = f.head; rest = drop found.len input ++ more; stands = head_before input f.head (drop found.len input) more f.stands; asked = asked })

judge_target : ChunkLaw → (input : List ℕ) (r : Request) (h : RequestHead) (rest sent : List ℕ) (good head_only : Bool) → IsTargetOf h.target good r.target.items → HasMessage input h r.body.items rest → r.method ≡ h.method
    → r.closes ≡ closes_after h → head_only ≡ is_head h.method → sent ≡ continue_text (asks_to_continue h) → ReadsPrefix input (Ok (targeted r good head_only)) rest sent
judge_target law input r h rest sent true head_only good m method closes shown asked =
    let request : HasRequest input h r.target.items r.body.items rest = record { message = m; target_is = good } in
    let cut = request_prefix law input h r.target.items r.body.items rest request in (search (rules, request, cut, target_ascii), asked)
judge_target law input r h rest sent false head_only bad m method closes shown asked = search rules

pub rest_reads : ChunkLaw → (input more : List ℕ) (found : Head) (r : Request) (good : Bool) (c : Result Chunked WireFault) (rest sent : List ℕ) (f : IsFound input found) → r.method ≡ span_bytes input found.method
    → IsTargetOf (span_bytes input found.target) good r.target.items → r.closes ≡ found.closes → BodyRead found.framing (drop found.len input ++ more) c r.body.items rest → sent ≡ continue_text (asks_to_continue f.head)
    → ReadsPrefix (input ++ more) (finished r good found.head_only c) rest sent
rest_reads law input more found r good (Ok chunked.Whole) rest sent f method target closes b asked = search (rules, judge_target, whole)
rest_reads law input more found r good (Ok chunked.Lacking) rest sent f method target closes b asked = (lacks input more found f b, due input more sent found f asked)
rest_reads law input more found r good (Ok (chunked.Refused fault)) rest sent f method target closes b asked = (faulty input more found fault f b, due input more sent found f asked)
rest_reads law input more found r good (Err fault.Memory) rest sent f method target closes b asked = (out_of_memory input more found f, due input more sent found f asked)
rest_reads law input more found r good (Err _) rest sent f method target closes b asked = inl (lacks input more found f b, due input more sent found f asked)
