-- The requests of a stream with their answers, as they stand in the talk over what was read and written.
use Rattle.std.specs.Prelude.{ℕ, Bool, true, false, List, [], ◌∷◌, ◌++◌, Option, Result, Ok, Err}
use Rattle.{desk_theorem.specs.claim.Streams.{State, Takes, Looks, ServedAs}, desk_theorem_lives.specs.declared.desk_lives.{Answer.{Answer, TheVariants.Said}, Request.Request}}
use Rattle.{desk_theorem_lives.specs.declared.desk_lives.Request.TheVariants.{Change, Look}, http_desk.specs.streams.{claim.Talk.{Talk, MayAnswer}, declared.serve.Served.Served}}
use Rattle.http_desk.specs.streams.{declared.serve.ServeFault.ServeFault, http_wire.claim.Prefix.{closes_after, is_head}, routes.claim.Orders.order_of}
use Rattle.http_desk.specs.streams.routes.declared.order.Order.{Order}
use Rattle.http_desk.specs.streams.routes.declared.order.Order.TheVariants as order
use Rattle.http_desk.specs.streams.declared.serve.ServeFault.TheVariants as fault

module _ (t u : ℕ) where
  -- what an order asks of the desk, with the reply that its answer tells
  abbrev pub exchange_of : (s : State) (o : Order) (closing head_only : Bool) (text : List ℕ) (shut : Bool) (end : State)
      → MayAnswer (Takes t u) Looks s o closing head_only text shut end → List (Request × Answer)
  exchange_of s (order.Command c) closing head_only text shut end is = (Change c, Said is.0) ∷ []
  exchange_of s (order.Query q) closing head_only text shut end is = (Look q, Said is.0) ∷ []
  exchange_of s (order.Refused why) closing head_only text shut end is = []

  -- those of a talk, one after the other
  abbrev pub exchanges_of : (s : State) (input output : List ℕ) (n : ℕ) (shut : Bool) (end : State)
      → Talk (Takes t u) Looks s input output n shut end → List (Request × Answer)
  exchanges_of s _ _ _ _ _ (Talk.over _) = []
  exchanges_of s _ _ _ _ _ (Talk.ended _ input interim cut line) = []
  exchanges_of s _ _ _ _ _ (Talk.out_of_memory _ input interim head_only out_of_memory line) = []
  exchanges_of s _ _ _ _ _ (Talk.refused _ input interim f head_only has line) = []
  exchanges_of s _ _ _ _ _ (Talk.closed _ input h target body rest text y has is) =
      exchange_of s (order_of h.method target body) (closes_after h) (is_head h.method) text true y is
  exchanges_of s _ _ _ _ _ (Talk.went _ input h target body rest text y output n shut end has is talk) =
      exchange_of s (order_of h.method target body) (closes_after h) (is_head h.method) text false y is ++ exchanges_of y rest output n shut end talk

  -- those of a stream that was served so
  abbrev pub exchanges_in : (s : State) (served : Result Served ServeFault) (left : Option (List ℕ)) (input output : List ℕ) (end : State)
      → ServedAs t u s served left input output end → List (Request × Answer)
  exchanges_in s (Ok served) left input output end is = exchanges_of s input output served.requests is.0 end is.1
  exchanges_in s (Err fault.ReadFault) left input output end is = exchanges_of s is.prefix output is.count is.shut end is.talk
  exchanges_in s (Err fault.TurnLimit) left input output end is = exchanges_of s is.prefix output is.count is.shut end is.talk
  exchanges_in s (Err fault.WriteFault) left input output end is =
      exchanges_of s is.over_prefix.prefix is.answers is.over_prefix.count is.over_prefix.shut end is.over_prefix.talk
  exchanges_in s (Err fault.Memory) left input output end is = []
