-- No prefix is none of its cases.
use Rattle.std.proofs.Common.{◌≡◌, ℕ, false, Option, Some, None, Result, Ok, Err, List, ◌++◌, length, take, drop, refl, sym, ap, subst, ◌∙◌, arith, inl, inr, ⊎_elim, append-nil, take-append-drop, length-take-le, length-append}
use Rattle.{std.proofs.lemmas.Bool.cases_lt, http_wire.specs.{Law.IsNoPrefix, claim.Target.target_of, declared.head.Framing.{Framing, TheVariants.{Sized, Chunked}}}}
use Rattle.{http_wire.specs.claim.Prefix.{HasHead, HasMessage, RefusesBytes, IsOpen, HasBody, IsFaulty, Lacks, judged_head, is_head}, http_wire_intake.specs.Chunks.ChunkLaw}
use Rattle.http_wire_intake.specs.{claim.{Limits.window, Lines.head_lines}, declared.bad_request.BadRequest.{BadRequest, TheVariants.{BadHead, HeadTooLarge, BadTarget}}}
use Rattle.{httparse.specs.Grammar.{RequestHead, ReadsRequest, HasNoRequest, MayBecomeRequest, print_request}, http_wire.proofs.LookLemmas.overflows_at}
use Rattle.http_wire_intake.proofs.{LineLemmas.{lines_of_head, head_lines_grow}, Prefixes.{window_rest, window_short, either_prefix}}
use Rattle.httparse.proofs.GrammarLemmas.{request_unique, ReadsRequest-append}

-- ---- a head

module _ (input : List ℕ) (none_has : (h : RequestHead) (rest : List ℕ) → HasHead input h rest → ⊥) (no_fault : (f : BadRequest) → RefusesBytes input f → ⊥) (not_open : IsOpen input → ⊥) where
  no_request : HasNoRequest (window input)
  no_request h rest reads = ⊎_elim
      (λ lt. no_fault HeadTooLarge (inr (record {
        lines = omega (arith, lt, lines_of_head h reads.0, head_lines_grow (print_request h) rest, ap head_lines reads.1);
        exceeds = λ more k after other.
            let same = request_unique (window input ++ more) h k (rest ++ more) after (ReadsRequest-append (window input) h rest more reads) other in
            omega (arith, lt, ap (λ (g : RequestHead). length g.fields) same.0);
      })))
      (λ le. none_has h (rest ++ drop 16384 input) (record {
        reads = subst (λ xs. ReadsRequest xs h (rest ++ drop 16384 input)) (window_rest input) (ReadsRequest-append (window input) h rest (drop 16384 input) reads);
        short = omega (arith, ap length reads.1, length-append (print_request h) rest, window_short input);
        few = le;
      }))
      (cases_lt 64 (length h.fields))

  head_may : MayBecomeRequest (window input) → ⊥
  head_may goes_on = ⊎_elim
      (λ lt. ⊎_elim (λ few. not_open (record { short = lt; none = no_request; goes_on = goes_on; few = few }))
      (λ many. no_fault HeadTooLarge (inr (record { lines = many; exceeds = overflows_at (window input) no_request many }))) (cases_lt (head_lines (window input)) 66))
      (λ long. no_fault HeadTooLarge (inl (record { long = long; none = no_request; goes_on = goes_on }))) (cases_lt (length input) 16384)

  head_case : ⊥
  head_case = no_fault BadHead (record {
    never = λ more h rest reads. ⊎_elim (λ x. no_request h x.0 (reads.0, x.1)) (λ x. head_may (inl (x.0, h, (reads.0, x.1 ∙ sym (append-nil (print_request h))))))
        (either_prefix (window input) more (print_request h) rest reads.1);
    past_target = λ e. head_may (inr e);
  })

-- ---- what follows it

module _ (law : ChunkLaw) (input : List ℕ) (x : IsNoPrefix input) (h : RequestHead) (rest : List ℕ) (s : HasHead input h rest) where
  module _ (framing : Framing) (judges : judged_head h ≡ Ok framing) where
    framed_whole : (b r : List ℕ) → HasBody framing rest b r → ⊥
    framed_whole b r y = told (target_of h.target) refl
      where
        message : HasMessage input h b r
        message = record { text = rest; head = s; framing = framing; judges = judges; stands = y }

        told : (t : Option (List ℕ)) → target_of h.target ≡ t → ⊥
        told (Some t) e = x.request h t b r (record { message = message; target_is = e })
        told None e = x.fault BadTarget (is_head h.method) (inr (inr (inr (record { head = h; body = b; rest = r; message = message; bad = e; named = refl; shown = refl }))))

    framed_fault : (f : BadRequest) → IsFaulty framing rest f → ⊥
    framed_fault f y = x.fault f (is_head h.method) (inr (inr (inl (record { head = h; rest = rest; framing = framing; stands = s; judges = judges; faulty = y; shown = refl }))))

    framed_lack : Lacks framing rest → ⊥
    framed_lack y = x.incomplete (inr (record { head = h; rest = rest; framing = framing; stands = s; judges = judges; lacks = y }))

  after_case : (j : Result Framing BadRequest) → judged_head h ≡ j → ⊥
  after_case (Ok (Sized n)) e = ⊎_elim (framed_lack (Sized n) e)
      (λ long. framed_whole (Sized n) e (take n rest) (drop n rest) (sym (take-append-drop n rest), length-take-le n rest long)) (cases_lt (length rest) n)
  after_case (Ok Chunked) e = law.some_case 0 rest (omega arith) (record { whole = framed_whole Chunked e; fault = framed_fault Chunked e; lack = framed_lack Chunked e })
  after_case (Err f) e = x.fault f (is_head h.method) (inr (inl (record { head = h; rest = rest; stands = s; judges = e; shown = refl })))

pub some_prefix : ChunkLaw → (input : List ℕ) → IsNoPrefix input → ⊥
some_prefix law input x =
    head_case input (λ h rest s. after_case law input x h rest s (judged_head h) refl) (λ f bad. x.fault f false (inl (bad, refl))) (λ o. x.incomplete (inl o))
