-- The requests of a stream as those of a life.
use Rattle.std.proofs.{Common.{◌≡◌, ℕ, Bool, true, false, List, [], ◌∷◌, ◌++◌, map, Option, Result, Ok, Err, inl, inr, ⊎_elim, refl, sym, subst, ◌∙◌}, lemmas.List.append-nil}
use Rattle.{desk_model.specs.{claim.Desk.Desk, declared.{command.{Command.Command, Query.Query}, reply.Reply.Reply}}, desk_store_catalogue.specs.claim.Audits.AskMay}
use Rattle.{desk_theorem.specs.claim.Exchanges.{exchange_of, exchanges_of, exchanges_in}, desk_theorem_lives.specs.claim.DeskLives.{Failed, Lived}}
use Rattle.desk_theorem.specs.claim.Streams.{State, working, failed, shown_in, left_in, Takes, Looks, Ends, ServedAs, Streamed}
use Rattle.desk_theorem_lives.specs.declared.desk_lives.{Answer.{Answer, TheVariants.Said}, Request.{Request, TheVariants.{Change, Look}}}
use Rattle.http_desk.specs.streams.{claim.Talk.{Talk, MayAnswer}, declared.serve.{ServeFault.ServeFault, Served.Served}, http_wire.claim.Prefix.{closes_after, is_head}}
use Rattle.http_desk.specs.streams.routes.{claim.Orders.order_of, declared.order.Order.Order}
use Rattle.http_desk.specs.streams.routes.declared.order.Order.TheVariants as order
use Rattle.http_desk.specs.streams.declared.serve.ServeFault.TheVariants as fault

abbrev pub Exchange : Type 0
Exchange = Request × Answer

abbrev pub asks_in : List Exchange → List Request
asks_in all = map (λ (x : Request × Answer). x.0) all

abbrev pub tells_in : List Exchange → List Answer
tells_in all = map (λ (x : Request × Answer). x.1) all

module _ (t u : ℕ) where
  -- what exchanges make of a state, and a stop leaves
  abbrev pub Goes : State → List Exchange → Desk → Type 0
  Goes (working d) all e = Lived t u d (asks_in all) (tells_in all) e
  Goes (failed shown left) all e = Failed shown (asks_in all) (tells_in all) × (e ≡ left)

  stays : (s : State) → Goes s [] (left_in s)
  stays (working d) = refl
  stays (failed shown left) = (tt, refl)

  taken_first : (s : State) (c : Command) (r : Reply) (next : State) (all : List Exchange) (e : Desk) → Takes t u s c r next → Goes next all e → Goes s ((Change c, Said r) ∷ all) e
  taken_first (working d) c r (working next) all e is goes = inl (r, next, refl, is, goes)
  taken_first (working d) c r (failed shown left) all e is goes =
      inr (is.0, (λ i. Said (is.1 i)), (rw is.2 at goes.0, ⊎_elim (λ same. inl (goes.1 ∙ same)) (λ same. inr (goes.1 ∙ same)) is.3))
  taken_first (failed d x) c r (working next) all e is goes = absurd is
  taken_first (failed d x) c r (failed shown left) all e is goes = (((λ i. Said (is.0 i)), rw is.1 at goes.0), goes.1 ∙ is.2)

  looked_first : (s : State) (q : Query) (r : Reply) (all : List Exchange) (e : Desk) → AskMay (shown_in s) q r → Goes s all e → Goes s ((Look q, Said r) ∷ all) e
  looked_first (working d) q r all e may goes = (r, refl, may, goes)
  looked_first (failed shown left) q r all e may goes = ((r, refl, may, goes.0), goes.1)

  -- an order, and what was asked after it
  one_first : (s : State) (o : Order) (closing head_only : Bool) (text : List ℕ) (shut : Bool) (y : State) (may : MayAnswer (Takes t u) Looks s o closing head_only text shut y) (all : List Exchange) (e : Desk) → Goes y all e
      → Goes s (exchange_of t u s o closing head_only text shut y may ++ all) e
  one_first s (order.Command c) closing head_only text shut y may all e goes = taken_first s c may.0 y all e may.1 goes
  one_first s (order.Query q) closing head_only text shut y may all e goes = looked_first s q may.0 all e may.1.0 (subst (λ (x : State). Goes x all e) may.1.1 goes)
  one_first s (order.Refused why) closing head_only text shut y may all e goes = subst (λ (x : State). Goes x all e) may.2 goes

  -- the last one
  one_last : (s : State) (o : Order) (closing head_only : Bool) (text : List ℕ) (shut : Bool) (y : State) (may : MayAnswer (Takes t u) Looks s o closing head_only text shut y) → Goes s (exchange_of t u s o closing head_only text shut y may) (left_in y)
  one_last s o closing head_only text shut y may = rw append-nil at (one_first s o closing head_only text shut y may [] (left_in y) (stays y))

  talk_goes : (s : State) (input output : List ℕ) (m : ℕ) (shut : Bool) (z : State) (talk : Talk (Takes t u) Looks s input output m shut z) → Goes s (exchanges_of t u s input output m shut z talk) (left_in z)
  talk_goes s _ _ _ _ _ (Talk.closed _ input h target body rest text y has may) =
      one_last s (order_of h.method target body) (closes_after h) (is_head h.method) text true y may
  talk_goes s _ _ _ _ _ (Talk.went _ input h target body rest text y output m shut z has may talk) =
      one_first s (order_of h.method target body) (closes_after h) (is_head h.method) text false y may (exchanges_of t u y rest output m shut z talk) (left_in z) (talk_goes y rest output m shut z talk)
  talk_goes s _ _ _ _ _ _ = stays s

  served_goes : (s : State) (served : Result Served ServeFault) (left : Option (List ℕ)) (input output : List ℕ) (end : State) (is : ServedAs t u s served left input output end)
      → Goes s (exchanges_in t u s served left input output end is) (left_in end)
  served_goes s (Ok served) left input output end is = talk_goes s input output served.requests is.0 end is.1
  served_goes s (Err fault.ReadFault) left input output end is = talk_goes s is.prefix output is.count is.shut end is.talk
  served_goes s (Err fault.TurnLimit) left input output end is = talk_goes s is.prefix output is.count is.shut end is.talk
  served_goes s (Err fault.WriteFault) left input output end is = talk_goes s is.over_prefix.prefix is.answers is.over_prefix.count is.over_prefix.shut end is.over_prefix.talk
  served_goes s (Err fault.Memory) left input output end is = subst (λ (x : State). Goes s [] (left_in x)) (sym is.2) (stays s)

  -- the requests of a stream are those of a life
  pub stream_asked : (d : Desk) (old new : Ends) (served : Result Served ServeFault) (e : Desk) (is : Streamed t u d old new served e)
      → Goes (working d) (exchanges_in t u (working d) served new.unread is.input is.output is.end is.talk) e
  stream_asked d old new served e is =
      subst (λ (x : Desk). Goes (working d) (exchanges_in t u (working d) served new.unread is.input is.output is.end is.talk) x) is.left
      (served_goes (working d) served new.unread is.input is.output is.end is.talk)
