-- The talk of a counter, as one of something else that its counter shows.
use Rattle.{std.{specs.Prelude.{ℕ, Bool, true, false, List}, proofs.Common.ap}, desk_model.specs.declared.{command.{Command.Command, Query.Query}, reply.Reply.Reply}}
use Rattle.http_desk.specs.streams.{claim.Talk.{MayAnswer, Talk}, routes.declared.order.Order.Order}
use Rattle.http_desk.specs.streams.routes.declared.order.Order.TheVariants as order

module _ {X Y : Type 0} (f : X → Y) (commands : X → Command → Reply → X → Type 0) (asks : X → Query → Reply → X → Type 0) (does : Y → Command → Reply → Y → Type 0) (tells : Y → Query → Reply → Y → Type 0) (one : (x : X) (c : Command) (r : Reply) (y : X) → commands x c r y → does (f x) c r (f y)) (other : (x : X) (q : Query) (r : Reply) (y : X) → asks x q r y → tells (f x) q r (f y)) where
  answer_seen : (x : X) (o : Order) (closing head_only : Bool) (text : List ℕ) (shut : Bool) (y : X) → MayAnswer commands asks x o closing head_only text shut y → MayAnswer does tells (f x) o closing head_only text shut (f y)
  answer_seen x (order.Command c) closing head_only text shut y may = (may.0, one x c may.0 y may.1, may.2)
  answer_seen x (order.Query q) closing head_only text shut y may = (may.0, other x q may.0 y may.1, may.2)
  answer_seen x (order.Refused e) closing head_only text shut y may = (may.0, may.1, ap f may.2)

  -- each request is answered as that answers it
  pub talk_seen : (x : X) (input output : List ℕ) (n : ℕ) (shut : Bool) (y : X) → Talk commands asks x input output n shut y → Talk does tells (f x) input output n shut (f y)
  talk_seen x _ _ _ _ _ (Talk.over _) = Talk.over (f x)
  talk_seen x _ _ _ _ _ (Talk.ended _ input interim is stands) = Talk.ended (f x) input interim is stands
  talk_seen x _ _ _ _ _ (Talk.out_of_memory _ input interim head_only is stands) = Talk.out_of_memory (f x) input interim head_only is stands
  talk_seen x _ _ _ _ _ (Talk.refused _ input interim e head_only has stands) = Talk.refused (f x) input interim e head_only has stands
  talk_seen x _ _ _ _ _ (Talk.closed _ input h target body rest text y has answers) =
      Talk.closed (f x) input h target body rest text (f y) has (answer_seen x _ _ _ text true y answers)
  talk_seen x _ _ _ _ _ (Talk.went _ input h target body rest text y output n shut z has answers later) =
      Talk.went (f x) input h target body rest text (f y) output n shut (f z) has (answer_seen x _ _ _ text false y answers) (talk_seen y rest output n shut z later)
