-- When an answer is sent.
use Rattle.{std.proofs.Common.{◌≡◌, ℕ, true, List, Ok, Err, inl, inr, refl, ap, ◌∙◌}, desk_model.specs.declared.{command.{Command.Command, Query.Query}, reply.Reply.Reply}}
use Rattle.{http_desk_streams.specs.Owing.{AnswersComeFirst, InterimComesFirst}, http_wire.specs.claim.Interim.{Interim, continue_line, continue_text, asks_to_continue}}
use Rattle.{http_wire.specs.claim.Prefix.HasHead, httparse.{specs.Grammar.RequestHead, proofs.GrammarLemmas.request_unique}}
use Rattle.http_desk_streams.specs.declared.serve.ServeFault.TheVariants as fault

module _ {X : Type 0} (commands : X → Command → Reply → X → Type 0) (asks : X → Query → Reply → X → Type 0) where
  pub answers_first : AnswersComeFirst commands asks
  answers_first x y (Ok served) unread left before after reads writes is failed = absurd (failed refl)
  answers_first x y (Err fault.WriteFault) unread left before after reads writes is failed = absurd (failed refl)
  answers_first x y (Err fault.Memory) unread left before after reads writes is failed = absurd (failed refl)
  answers_first x y (Err fault.TurnLimit) unread left before after reads writes is failed = absurd (failed refl)
  answers_first x y (Err fault.ReadFault) unread left before after reads writes is failed =
      (refl, refl, record { input = is.0; output = is.1; read = is.2; written = is.3; answered = is.4 })

line_due : (input text more : List ℕ) (head : RequestHead) → HasHead input head more → asks_to_continue head ≡ true → Interim input text → text ≡ continue_line
line_due input text more head stands asked (inl asks) =
    let same : asks.head ≡ head = (request_unique input asks.head head asks.rest more asks.stands.reads stands.reads).0 in
    asks.asked ∙ ap (λ (h : RequestHead). continue_text (asks_to_continue h)) same ∙ ap continue_text asked
line_due input text more head stands asked (inr none) = absurd (none.none head more stands)

pub interim_first : InterimComesFirst
interim_first input rest sent more head (inl short) stands asked = inl (line_due input sent more head stands asked short.1)
interim_first input rest sent more head (inr cut) stands asked = inr cut.0
