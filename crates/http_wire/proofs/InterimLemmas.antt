-- What is written before the answer to a start.
use Rattle.std.proofs.Common.{◌≡◌, ℕ, zero, ◌+◌, Bool, true, List, [], ◌++◌, take, drop, refl, sym, ap, subst, ◌∙◌, inl, inr, append_assoc, append-nil, take-append-drop, rules}
use Rattle.{std.proofs.lemmas.{Bool.and_parts, List.append_cancel_right}, http_wire.specs.{Interim.{IsCutInterim, IsCutShort}, Look.IsFound, Prefix.RefusesPrefix}}
use Rattle.http_wire.specs.claim.{Interim.{Interim, continue_text, asks_by, asks_to_continue, has_body}, Prefix.{HasHead, HasFault, Lacks, IsOpen, IsIncomplete}}
use Rattle.{http_wire.specs.declared.{head.Framing.{Framing, TheVariants.Sized}, look.Head.Head}, http_wire_intake.specs.{Chunks.ChunkLaw, Draws.IsPutOff}}
use Rattle.{http_wire_intake.specs.{claim.Lines.IsWithinLine, declared.bad_request.BadRequest.BadRequest}, httparse.specs.Grammar.print_request}
use Rattle.http_wire.proofs.PrefixLemmas.{bytes_no_head, open_no_head}

-- once the bytes are known as others
pub open_prefix : (xs ys : List ℕ) → xs ≡ ys → IsOpen xs → IsIncomplete ys × Interim ys []
open_prefix xs ys e o = subst (λ (zs : List ℕ). IsIncomplete zs × Interim zs []) e (inl o, inr (record { none = λ h rest s. open_no_head xs h rest o s; nothing = refl }))

-- the same where a look was put off
pub open_short : (held ys : List ℕ) → held ≡ ys → IsPutOff IsOpen IsWithinLine held → IsCutShort ys []
open_short held ys e p = inr (record { head = p.prefix; unread = p.unread; read = sym e ∙ p.cut; lacks = p.says; line = p.all }, refl)

pub refused_prefix : (xs ys : List ℕ) (f : BadRequest) (head_only : Bool) → xs ≡ ys → RefusesPrefix xs f head_only → HasFault ys f head_only × Interim ys []
refused_prefix xs ys f head_only e (inl x) =
    subst (λ (zs : List ℕ). HasFault zs f head_only × Interim zs []) e (inl x, inr (record { none = λ h rest s. bytes_no_head xs f h rest x.0 s; nothing = refl }))
refused_prefix xs ys f head_only e (inr x) =
    let asked : [] ≡ continue_text (asks_to_continue x.head) = sym (ap (λ r. continue_text (asks_by r x.head)) x.judges) in
    subst (λ (zs : List ℕ). HasFault zs f head_only × Interim zs []) e (inr (inl x), inl (record { head = x.head; rest = x.rest; stands = x.stands; asked = asked }))

pub found_asks : (input : List ℕ) (found : Head) (f : IsFound input found) → continue_text found.expects ≡ continue_text (asks_to_continue f.head)
found_asks input found f = ap continue_text (f.expects ∙ sym (ap (λ r. asks_by r f.head) f.judges))

-- a body has some bytes
nothing_came : ChunkLaw → (m : Framing) → has_body m ≡ true → Lacks m []
nothing_came law (Sized zero) some = search rules
nothing_came law _ some = search rules

-- the writer failed within the line, after the head
pub found_cut : ChunkLaw → (input more : List ℕ) (found : Head) (sent unwritten : List ℕ) → IsFound input found → found.expects ≡ true → continue_text found.expects ≡ sent ++ unwritten → IsCutInterim (input ++ more) sent
found_cut law input more found sent unwritten f expects cut =
    let text = print_request f.head in
    let left = drop found.len input in
    let reads = append_cancel_right (take found.len input) text left (take-append-drop found.len input ∙ f.stands.reads.1) ∙ sym (append-nil text) in
    let alone : HasHead (take found.len input) f.head [] = record { reads = (f.stands.reads.0, reads); short = f.stands.short; few = f.stands.few } in
    let some = (and_parts (has_body found.framing) _ (sym f.expects ∙ expects)).0 in
    record {
      prefix = take found.len input;
      unread = left ++ more;
      read = ap (λ (xs : List ℕ). xs ++ more) (sym (take-append-drop found.len input)) ∙ append_assoc (take found.len input) left more;
      lacks = inr (record { head = f.head; rest = []; framing = found.framing; stands = alone; judges = f.judges; lacks = nothing_came law found.framing some });
      due = continue_text found.expects;
      interim = inl (record { head = f.head; rest = []; stands = alone; asked = found_asks input found f });
      unwritten = unwritten;
      written = cut;
    }
