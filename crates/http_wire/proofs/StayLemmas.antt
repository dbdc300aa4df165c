-- A request and a fault stay, whatever bytes follow.
use Rattle.std.proofs.Common.{◌≡◌, ◌⊎◌, ℕ, ◌+◌, ◌-◌, ◌<◌, true, Bool, List, [], ◌∷◌, ◌++◌, length, take, codes, sym, ap, subst, ◌∙◌, arith, inl, inr, ⊎_elim, append_assoc, append-nil, length-append, rules}
use Rattle.std.proofs.{Math.Seq.take-append_seam, lemmas.List.{append_cancel_left, Elements.{All-nil, All-take}, Sums.AllPass-from_list_all}}
use Rattle.http_wire.specs.{claim.Prefix.{HasMessage, HasRequest, RefusesBytes, HasFault, HasBody, IsFaulty}, declared.head.Framing.{Framing, TheVariants.{Sized, Chunked}}}
use Rattle.http_wire_intake.specs.{Chunks.ChunkLaw, claim.Limits.window, declared.bad_request.BadRequest.{BadRequest, TheVariants.{BadHead, HeadTooLarge}}}
use Rattle.httparse.specs.Grammar.{is_uri_byte, AllPass, IsToken, LineEnd, lf, print_blank, RequestHead, IsRequestHead, ReadsRequest, EndsInTarget}
use Rattle.{http_wire.proofs.RequestLemmas.head_before, http_wire_intake.proofs.{LineLemmas.head_lines_grow, Prefixes.{window_grows, window_full, either_prefix}}}
use Rattle.httparse.proofs.GrammarLemmas.{print_request-append}

-- what holds of each head that more bytes may give holds with some of them
grows : (P : RequestHead → Type 0) (w y : List ℕ) → ((more : List ℕ) (h : RequestHead) (rest : List ℕ) → ReadsRequest (w ++ more) h rest → P h)
    → (more : List ℕ) (h : RequestHead) (rest : List ℕ) → ReadsRequest ((w ++ y) ++ more) h rest → P h
grows P w y all more h rest reads = all (y ++ more) h rest (subst (λ xs. ReadsRequest xs h rest) (append_assoc w y more) reads)

-- what follows a method, to make a head of it
abbrev ending : List ℕ
ending = codes " / HTTP/1.1\n\n"

-- a short head with this method
abbrev short_head : List LineEnd → List ℕ → RequestHead
short_head blank method = record { blank = blank; method = method; target = codes "/"; minor = 1; line_end = lf; fields = []; last = lf }

short_head_ok : (blank : List LineEnd) (method : List ℕ) → IsToken method → IsRequestHead (short_head blank method)
unfolding lib.Utf8.encode
short_head_ok blank method token = search (rules, AllPass-from_list_all, All-nil)

-- bytes that go on into a target end in it, or are a prefix of a head
target_or_prefix : (w y : List ℕ) → EndsInTarget (w ++ y) → EndsInTarget w ⊎ ((more : List ℕ) × (h : RequestHead) × ReadsRequest (w ++ more) h [])
target_or_prefix w y (blank, method, target, token, uris, is) = decide (either_prefix w y text (32 ∷ target) is)
  where
    text : List ℕ
    text = print_blank blank ++ method

    becomes : (tail : List ℕ) → w ++ tail ≡ text → (more : List ℕ) × (h : RequestHead) × ReadsRequest (w ++ more) h []
    becomes tail e = (
      tail ++ ending,
      short_head blank method,
      (
        short_head_ok blank method token,
        sym (append_assoc w tail ending) ∙ ap (λ (xs : List ℕ). xs ++ ending) e
            ∙ append_assoc (print_blank blank) method ending ∙ sym (print_request-append (short_head blank method) []),
      ),
    )

    decide : ((tail : List ℕ) × (w ≡ text ++ tail)) ⊎ ((tail : List ℕ) × (w ++ tail ≡ text))
        → EndsInTarget w ⊎ ((more : List ℕ) × (h : RequestHead) × ReadsRequest (w ++ more) h [])
    decide (inr (tail, e)) = inr (becomes tail e)
    decide (inl ([], e)) = inr (becomes [] (append-nil w ∙ e ∙ append-nil text))
    decide (inl (b ∷ tail, e)) =
        let after : b ∷ (tail ++ y) ≡ 32 ∷ target = append_cancel_left text (b ∷ (tail ++ y)) (32 ∷ target)
        (sym (append_assoc text (b ∷ tail) y) ∙ ap (λ (xs : List ℕ). xs ++ y) (sym e) ∙ is) in
        let space : b ≡ 32 = cc in
        let target_is : target ≡ tail ++ y = cc in
        let some : AllPass is_uri_byte (take (length tail) target) = All-take (λ v. is_uri_byte v ≡ true) (length tail) target uris in
        inl (blank, method, tail, token, rw (target_is, take-append_seam tail y) at some, e ∙ ap (λ (v : ℕ). text ++ v ∷ tail) space)

-- what the first bytes are refused for stays
bytes_stay : (input more : List ℕ) (f : BadRequest) → RefusesBytes input f → RefusesBytes (input ++ more) f
bytes_stay input more BadHead x =
    let g = window_grows input more in
    let w = window input in
    record { never = rw g.1 (grows (λ h. ⊥) w g.0 x.never); past_target = λ e. ⊎_elim x.past_target (λ b. x.never b.0 b.1 [] b.2) (target_or_prefix w g.0 (rw g.1 at e)) }
bytes_stay input more HeadTooLarge (inl x) =
    let same = window_full input more x.long in
    inl (record { long = omega (arith, x.long, length-append input more); none = rw same x.none; goes_on = rw same x.goes_on })
bytes_stay input more HeadTooLarge (inr x) =
    let g = window_grows input more in
    let w = window input in
    inr (record { lines = rw g.1 (omega (arith, x.lines, head_lines_grow w g.0)); exceeds = rw g.1 (grows (λ h. 64 < length h.fields) w g.0 x.exceeds) })
bytes_stay input more _ x = x

body_stays : ChunkLaw → (m : Framing) (text b r more : List ℕ) → HasBody m text b r → HasBody m (text ++ more) b (r ++ more)
body_stays law (Sized n) text b r more x = (ap (λ (xs : List ℕ). xs ++ more) x.0 ∙ append_assoc b r more, x.1)
body_stays law Chunked text b r more x = law.body_stays 0 text b r more x

faulty_stays : ChunkLaw → (m : Framing) (text : List ℕ) (f : BadRequest) (more : List ℕ) → IsFaulty m text f → IsFaulty m (text ++ more) f
faulty_stays law (Sized n) text f more x = absurd x
faulty_stays law Chunked text f more x = law.fault_stays 0 text f more x

message_stays : ChunkLaw → (input : List ℕ) (h : RequestHead) (b r more : List ℕ) → HasMessage input h b r → HasMessage (input ++ more) h b (r ++ more)
message_stays law input h b r more m =
    let stands = body_stays law m.framing m.text b r more m.stands in
    record { text = m.text ++ more; head = head_before input h m.text more m.head; framing = m.framing; judges = m.judges; stands = stands }

pub request_stays : ChunkLaw → (input : List ℕ) (h : RequestHead) (t b r more : List ℕ) → HasRequest input h t b r → HasRequest (input ++ more) h t b (r ++ more)
request_stays law input h t b r more x = record { message = message_stays law input h b r more x.message; target_is = x.target_is }

pub fault_stays : ChunkLaw → (input : List ℕ) (f : BadRequest) (head_only : Bool) (more : List ℕ) → HasFault input f head_only → HasFault (input ++ more) f head_only
fault_stays law input f head_only more (inl x) = inl (bytes_stay input more f x.0, x.1)
fault_stays law input f head_only more (inr (inl x)) =
    inr (inl (record { head = x.head; rest = x.rest ++ more; stands = head_before input x.head x.rest more x.stands; judges = x.judges; shown = x.shown }))
fault_stays law input f head_only more (inr (inr (inl x))) =
    let stands = head_before input x.head x.rest more x.stands in
    let faulty = faulty_stays law x.framing x.rest f more x.faulty in
    inr (inr (inl (record { head = x.head; rest = x.rest ++ more; framing = x.framing; stands = stands; judges = x.judges; faulty = faulty; shown = x.shown })))
fault_stays law input f head_only more (inr (inr (inr x))) =
    let message = message_stays law input x.head x.body x.rest more x.message in
    inr (inr (inr (record { head = x.head; body = x.body; rest = x.rest ++ more; message = message; bad = x.bad; named = x.named; shown = x.shown })))
