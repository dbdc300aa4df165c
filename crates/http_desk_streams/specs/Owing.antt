-- What the clauses of a served stream say of the order of reads and writes. A reader may fail at any read, and each failed read is
-- counted: so what is so whenever a read has failed is so at each read.
use Rattle.std.specs.{Io.KnownBytes.{Appends, Consumes}, Prelude.{◌≡◌, ◌⊎◌, ℕ, true, List, Option, Result, Err}}
use Rattle.{desk_model.specs.declared.{command.{Command.Command, Query.Query}, reply.Reply.Reply}, http_desk_streams.specs.declared.serve.{ServeFault.ServeFault, Served.Served}}
use Rattle.{http_desk_streams.specs.claim.Serving.{Serves, IsShortTalk, read_failures, write_failures}, http_wire.specs.{Incoming.ReadsPrefix, claim.Prefix.HasHead}}
use Rattle.{http_wire.specs.claim.Interim.{continue_line, asks_to_continue, IsCutHead}, httparse.specs.Grammar.RequestHead}
use Rattle.http_desk_streams.specs.declared.serve.ServeFault.TheVariants as fault
use Rattle.http_wire.specs.declared.fault.RequestFault.TheVariants as request

module _ {X : Type 0} (commands : X → Command → Reply → X → Type 0) (asks : X → Query → Reply → X → Type 0) where
  -- All that was read is answered, but for what is no whole request; and each answer was written, for no write failed.
  pub record OwesNothing (x y : X) (unread left before after : Option (List ℕ)) : Type 0 where
    pub input : List ℕ
    pub output : List ℕ
    pub read : Consumes unread left input
    pub written : Appends before after output
    pub answered : IsShortTalk commands asks x input output y

  -- Nothing is read while an answer is owed: where a read of a stream failed, it owed nothing, and no write had failed.
  abbrev pub AnswersComeFirst : Type 0
  AnswersComeFirst =
      (x y : X) (served : Result Served ServeFault) (unread left before after : Option (List ℕ)) (reads writes : ℕ)
      → Serves commands asks x served y unread left before after → (read_failures reads served ≡ reads → ⊥)
      → (served ≡ Err fault.ReadFault) × (write_failures writes served ≡ writes) × OwesNothing x y unread left before after

-- No body is read before the interim line that its head asks for: where a read failed and a head has come that asks for the line, that
-- was written. It isn't where the head's last line had come and was not looked at.
abbrev pub InterimComesFirst : Type 0
InterimComesFirst =
    (input rest sent more : List ℕ) (head : RequestHead)
    → ReadsPrefix input (Err request.Read) rest sent → HasHead input head more → asks_to_continue head ≡ true
    → (sent ≡ continue_line) ⊎ IsCutHead input
