-- What may be written for what is read, request by request: the talk of a stream of bytes.
use Rattle.std.specs.Prelude.{◌≡◌, ◌⊎◌, ℕ, suc, Bool, true, false, List, [], ◌++◌}
use Rattle.{desk_model.specs.declared.{command.{Command.Command, Query.Query}, reply.Reply.Reply}, http_desk_routes.specs.{claim.Orders.order_of, declared.order.Order.Order}}
use Rattle.{http_desk_streams.specs.claim.Answers.{bytes_of, memory_text, error_message, fault_message, Tells}, http_wire.specs.intake.declared.bad_request.BadRequest.BadRequest}
use Rattle.{http_wire.specs.claim.Interim.{Interim, continue_text, asks_to_continue}, httparse.specs.Grammar.RequestHead}
use Rattle.http_wire.specs.claim.Prefix.{HasRequest, HasFault, IsOutOfMemory, IsIncomplete, closes_after as closes_after_head, is_head}
use Rattle.http_desk_routes.specs.declared.order.Order.TheVariants as order

-- Generic in what answers: the two relations say which reply a command or a query may have, and what it leaves.
module _ {X : Type 0} (commands : X → Command → Reply → X → Type 0) (asks : X → Query → Reply → X → Type 0) where
  -- The order may have this answer, after which the connection shuts or not, and leave y. The request asks to close or not,
  -- and its answer is bare or not.
  abbrev pub MayAnswer : X → Order → (closing head_only : Bool) → (text : List ℕ) → (shut : Bool) → X → Type 0
  MayAnswer x (order.Command c) closing head_only text shut y = (r : Reply) × commands x c r y × Tells r closing head_only text shut
  MayAnswer x (order.Query q) closing head_only text shut y = (r : Reply) × asks x q r y × Tells r closing head_only text shut
  MayAnswer x (order.Refused e) closing head_only text shut y = (text ≡ bytes_of closing head_only (error_message e)) × (shut ≡ closing) × (y ≡ x)

  -- the same of a request with this head
  abbrev pub AnswersHead : X → (h : RequestHead) → (target body text : List ℕ) → (shut : Bool) → X → Type 0
  AnswersHead x h target body text shut y = MayAnswer x (order_of h.method target body) (closes_after_head h) (is_head h.method) text shut y

  -- From x, for this input, this output with so many answers may be written, the last of them closing or not, and y is left. Before
  -- an answer, and where the input ends after a head, stands the interim line that the head asks for; it is no answer
  pub data Talk : X → List ℕ → List ℕ → ℕ → Bool → X → Type 0 where
    -- nothing is left to read
    over : (x : X) → Talk x [] [] 0 false x
    -- the input ends within a request
    ended : (x : X) (input interim : List ℕ) → IsIncomplete input → Interim input interim → Talk x input interim 0 false x
    -- memory for the request was refused, before it came to the counter
    out_of_memory : (x : X) (input interim : List ℕ) (head_only : Bool) → IsOutOfMemory input head_only
        → Interim input interim → Talk x input (interim ++ memory_text head_only) 1 true x
    refused : (x : X) (input interim : List ℕ) (f : BadRequest) (head_only : Bool) → HasFault input f head_only
        → Interim input interim → Talk x input (interim ++ bytes_of true head_only (fault_message f)) 1 true x
    closed : (x : X) (input : List ℕ) (h : RequestHead) (target body rest text : List ℕ) (y : X) → HasRequest input h target body rest
        → AnswersHead x h target body text true y → Talk x input (continue_text (asks_to_continue h) ++ text) 1 true y
    went : (x : X) (input : List ℕ) (h : RequestHead) (target body rest text : List ℕ) (y : X)
        (output : List ℕ) (n : ℕ) (shut : Bool) (z : X) → HasRequest input h target body rest
        → AnswersHead x h target body text false y → Talk y rest output n shut z
        → Talk x input ((continue_text (asks_to_continue h) ++ text) ++ output) (suc n) shut z

  -- the order is answered, or memory was wanting before
  abbrev pub Handles : X → Order → (closing head_only : Bool) → (text : List ℕ) → (shut : Bool) → X → Type 0
  Handles x o closing head_only text shut y = MayAnswer x o closing head_only text shut y ⊎ ((text ≡ memory_text head_only) × (shut ≡ true) × (y ≡ x))
