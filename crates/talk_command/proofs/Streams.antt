-- The commands of a talk are a run.
use Rattle.{std.proofs.Common.{ℕ, ◌+◌, Bool, true, false, List, [], ◌++◌, Option, Result, Ok, Err, inl, inr, subst}, desk_theorem.specs.runs.desk_store.declared.clerk.Clerk.Clerk}
use Rattle.{desk_theorem.specs.runs.claim.Runs.{Call, Run, SurvivesEachRun}, http_desk.specs.streams.claim.{Serving.ServesTo, Talk.{Talk, MayAnswer}}}
use Rattle.http_desk.specs.streams.{declared.serve.{ServeFault.ServeFault, Served.Served}, http_wire.claim.Prefix.{closes_after, is_head}, routes.claim.Orders.order_of}
use Rattle.{http_desk.specs.streams.routes.declared.order.Order.Order, sector_device.specs.declared.SectorDevice.Ghosts}
use Rattle.talk_command.specs.claim.Served.{DoesAtCounter, AsksAtCounter, calls_with, calls_in, calls_served, SurvivesEachStream}
use Rattle.http_desk.specs.streams.routes.declared.order.Order.TheVariants as order
use Rattle.http_desk.specs.streams.declared.serve.ServeFault.TheVariants as fault

module _ {D : Type 0} {g : Ghosts D} where
  -- an answer, and a run after it
  answered : (x : Clerk D g) (o : Order) (closing head_only : Bool) (text : List ℕ) (shut : Bool) (y z : Clerk D g) (may : MayAnswer DoesAtCounter AsksAtCounter x o closing head_only text shut y) (calls : List Call)
      → Run y calls z → Run x (calls_with x o closing head_only text shut y may calls) z
  answered x (order.Command c) closing head_only text shut y z may calls run = Run.went x c may.0 y calls z may.1 run
  answered x (order.Query q) closing head_only text shut y z may calls run = subst (λ (w : Clerk D g). Run w calls z) may.1.1 run
  answered x (order.Refused e) closing head_only text shut y z may calls run = subst (λ (w : Clerk D g). Run w calls z) may.2 run

  talked : (x : Clerk D g) (input output : List ℕ) (n : ℕ) (shut : Bool) (y : Clerk D g) (talk : Talk DoesAtCounter AsksAtCounter x input output n shut y) → Run x (calls_in x input output n shut y talk) y
  talked x _ _ _ _ _ (Talk.closed _ input h target body rest text y has may) = answered x (order_of h.method target body) (closes_after h) (is_head h.method) text true y y may [] (Run.over y)
  talked x _ _ _ _ _ (Talk.went _ input h target body rest text y output n shut z has may talk) =
      answered x (order_of h.method target body) (closes_after h) (is_head h.method) text false y z may (calls_in y rest output n shut z talk) (talked y rest output n shut z talk)
  talked x _ _ _ _ _ _ = Run.over x

  served : (x : Clerk D g) (result : Result Served ServeFault) (left : Option (List ℕ)) (input output : List ℕ) (y : Clerk D g) (serves : ServesTo DoesAtCounter AsksAtCounter x result left input output y)
      → Run x (calls_served x result left input output y serves) y
  served x (Ok s) left input output y serves = talked x input output s.requests serves.0 y serves.1
  served x (Err fault.WriteFault) left input output y serves = talked x serves.over_prefix.prefix serves.answers serves.over_prefix.count serves.over_prefix.shut y serves.over_prefix.talk
  served x (Err fault.Memory) left input output y serves = subst (λ (w : Clerk D g). Run w [] y) serves.2 (Run.over y)
  served x (Err _) left input output y (inl talk) = talked x input output talk.0 false y talk.1
  served x (Err _) left input output y (inr cut) = talked x (cut.taken ++ []) (output ++ []) (cut.count + 0) false y (cut.on [] [] 0 false y (Talk.over y))

  pub stream_survives : (x : Clerk D g) → SurvivesEachRun x → SurvivesEachStream x
  stream_survives x survives result left input output y serves =
      let calls = calls_served x result left input output y serves in
      let run = served x result left input output y serves in
      record { run = run; survives = λ keeps off honest. survives calls y run keeps off honest }
