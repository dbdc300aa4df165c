-- What comes next, and what waits then.
use Rattle.{std.{specs.Io.KnownBytes.{Appends, Consumes}, proofs.{KnownBytes.Consumes-trans, lemmas.Bool.Decides.nat_tests}}, http_desk_streams.specs.declared.serve.Asked.Asked}
use Rattle.std.proofs.Common.{◌≡◌, ℕ, List, [], ◌++◌, Option, Some, None, Result, Ok, Err, refl, sym, ap, subst, ◌∙◌, arith, append_assoc, append-nil, inl, inr, true, ◌==◌, ◌∷◌, length, rules}
use Rattle.{http_desk_streams.specs.Serving.{IsUnanswered, NextCame}, http_wire.specs.{Incoming.{Came, IsNoEnd, ReadsPrefix}, Queue.Queued, declared.request.Incoming.Incoming}}
use Rattle.{http_wire.specs.declared.fault.RequestFault.RequestFault, http_desk_streams.proofs.TalkLemmas.{flushed, flushed_cut, queued_as, queued_then}}
use Rattle.http_wire.specs.declared.fault.RequestFault.TheVariants as fault
use Rattle.http_wire.specs.declared.request.Incoming.TheVariants as came
use Rattle.http_desk_streams.specs.declared.serve.Asked.TheVariants as asked

-- what there is to tell of it
abbrev pub Next : (u w a b : Option (List ℕ)) → (start before : List ℕ) → Result (Option Asked) RequestFault → (rest pending : List ℕ) → Type 0
Next u w a b start before result rest pending =
    (more : List ℕ) × (interim : List ℕ) × (unsent : List ℕ) × Consumes u w more × Queued a b before unsent interim × NextCame (start ++ more) result rest interim unsent pending

-- some was read, and of what waited some was sent
pub record Turned (u w a b : Option (List ℕ)) (start before read_buffer pending : List ℕ) : Type 0 where
  pub more : List ℕ
  pub read : Consumes u w more
  pub came : start ++ more ≡ read_buffer
  pub sent : Queued a b before pending []

-- what waited was sent, and then more was read
pub turn : (u v w a b c : Option (List ℕ)) (start before read_buffer pending came new left : List ℕ) → Turned u v a b start before read_buffer pending → Appends b c pending → Consumes v w came → new ≡ read_buffer ++ came → left ≡ []
    → Turned u w a c start before new left
turn u v w a b c start before read_buffer pending came new left t s read is none = search (rules, Consumes-trans, append_assoc, queued_as, flushed)

-- what came next is told from where the turns ended
pub next_from : (u w a b c : Option (List ℕ)) (start before read_buffer pending rest interim unsent after : List ℕ) (r : Result (Option Asked) RequestFault) → Turned u w a b start before read_buffer pending → Queued a c before unsent interim
    → NextCame read_buffer r rest interim unsent after → Next u w a c start before r rest after
next_from u w a b c start before read_buffer pending rest interim unsent after r t q n = (t.more, interim, unsent, t.read, q, subst (λ (xs : List ℕ). NextCame xs r rest interim unsent after) (sym t.came) n)

pub no_bytes : (held bytes : List ℕ) → true ≡ (length held == 0) → held ≡ bytes → bytes ≡ []
no_bytes [] bytes is same = sym same
no_bytes (b ∷ held) bytes is same = absurd (grind (arith, nat_tests, is))

-- nothing had come, and a turn brought nothing
pub nothing_came : (u v w a b c : Option (List ℕ)) (start before read_buffer pending rest after : List ℕ) (r : Result (Option Asked) RequestFault) → Turned u v a b start before read_buffer pending → read_buffer ≡ [] → Appends b c pending → Consumes v w []
    → (IsUnanswered [] [] → NextCame [] r rest [] [] after) → Next u w a c start before r rest after
nothing_came u v w a b c start before read_buffer pending rest after r t none s read told =
    let turned = turn u v w a b c start before read_buffer pending [] [] [] t s read (sym (append-nil read_buffer ∙ none)) refl in
    next_from u w a c c start before [] [] rest [] [] after r turned turned.sent (told (inl (refl, refl)))

-- what waited was sent in part
pub next_cut : (u w a b c : Option (List ℕ)) (start before read_buffer pending rest after : List ℕ) → Turned u w a b start before read_buffer pending → (prefix : List ℕ) × (left : List ℕ) × (pending ≡ prefix ++ left) × Appends b c prefix
    → Next u w a c start before (Err fault.Write) rest after
next_cut u w a b c start before read_buffer pending rest after t s =
    let q = flushed_cut a b c before pending [] t.sent s in
    next_from u w a b c start before read_buffer pending rest [] q.0 after (Err fault.Write) t q.1 (record { prefix = []; unread = read_buffer; read = refl; due = inl (refl, refl) })

no_end : (i : Incoming) → (i ≡ came.End → ⊥) → IsNoEnd i
no_end came.End other = absurd (other refl)
no_end _ other = tt

-- all that waited was sent, and then a request was read
module _ (u v w a b c d : Option (List ℕ)) (start before held pending read_buffer more rest after sent : List ℕ) (before_it : Turned u v a b start before held pending) (flush : Appends b c pending) (same : read_buffer ≡ held) (read : Consumes v w more) (send : Appends c d sent) (none : after ≡ []) where
  turned : Turned u w a c start before (read_buffer ++ more) []
  turned = turn u v w a b c start before held pending more (read_buffer ++ more) [] before_it flush read (ap (λ (xs : List ℕ). xs ++ more) same) refl

  told : (interim unsent : List ℕ) (r : Result (Option Asked) RequestFault) → interim ≡ sent ++ unsent → NextCame (read_buffer ++ more) r rest interim unsent after → Next u w a d start before r rest after
  told interim unsent r is n = next_from u w a c d start before (read_buffer ++ more) [] rest interim unsent after r turned (queued_then a c d before [] unsent [] interim turned.sent (sent, send, is)) n

  pub next_read : (i : Incoming) → (i ≡ came.End → ⊥) → Came (read_buffer ++ more) i rest sent → Next u w a d start before (Ok (Some (asked.Of i))) rest after
  next_read i other f = told sent [] (Ok (Some (asked.Of i))) (sym (append-nil sent)) (no_end i other, f, sym none)

  pub next_ended : Came (read_buffer ++ more) came.End rest sent → Next u w a d start before (Ok None) rest after
  next_ended f = told sent [] (Ok None) (sym (append-nil sent)) (inr f, refl)

  pub next_failed : (e : RequestFault) → ReadsPrefix (read_buffer ++ more) (Err e) rest sent → Next u w a d start before (Err e) rest after
  next_failed fault.Read f = told sent [] (Err fault.Read) (sym (append-nil sent)) (inr f, refl)
  next_failed fault.TurnLimit f = told sent [] (Err fault.TurnLimit) (sym (append-nil sent)) (inr f, refl)
  next_failed fault.Write f = told f.due f.unwritten (Err fault.Write) f.written (record { prefix = f.prefix; unread = f.unread; read = f.read; due = inr (f.lacks, f.interim) })
