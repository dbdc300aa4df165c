-- Lives of a store, as those see them who ask it: what they asked, and what they were told.
use Rattle.std.specs.{Prelude.{◌≡◌, ◌⊎◌, ◌<◌, ℕ, List, [], ◌∷◌, Option, Some, None, Result, Vec, ⊤}, declared.alloc.Global.Global}
use Rattle.desk_model.specs.{claim.{Desk.Desk, Geography.GeographyModel, Outcome.CommandMay, Step.step}, declared.{command.Command.Command, reply.Refusal.TheVariants.Halted}}
use Rattle.{desk_model.specs.declared.reply.Reply.{Reply, TheVariants.Refused}, desk_store_catalogue.specs.claim.Audits.AskMay}
use Rattle.{desk_store_pages.specs.declared.error.StoreError.StoreError, desk_theorem_lives.specs.declared.desk_lives.{Answer.Answer, Request.Request}}
use Rattle.desk_theorem_lives.specs.declared.desk_lives.{Answer.TheVariants.{Said, Loaded, Unloaded, Swept, Unswept}, Request.TheVariants.{Change, Look, Load, Sweep}}
use Rattle.std.specs.FinMap as map_of
use Rattle.desk_store_pages.specs.declared.error.StoreError.TheVariants as store

-- A command is answered by the step; or it is refused for want of room or of memory, which may come at any time, and nothing is changed.
abbrev pub StepOrRefused : Desk → Command → Reply → Desk → Type 0
StepOrRefused d c r next = CommandMay ⊥ ⊤ ⊥ d c r next

abbrev pub loaded_desk : GeographyModel → Desk
loaded_desk g = record { geography = Some g; plans = map_of.empty }

-- the desk after a load: a geography is loaded where there is none
abbrev pub after_load : Option GeographyModel → Desk → GeographyModel → Desk
after_load None d g = loaded_desk g
after_load (Some h) d g = d

-- a load is refused where one is sealed, and for want of room or memory, and nothing of it is seen
abbrev pub MayRefuse : StoreError → Desk → Type 0
MayRefuse store.AlreadySealed d = d.geography ≡ None → ⊥
MayRefuse store.Full d = ⊤
MayRefuse store.Memory d = ⊤
MayRefuse _ d = ⊥

-- a load by a device that has failed is refused for that, or where a geography is sealed, and for nothing else
abbrev pub MayFail : StoreError → Desk → Type 0
MayFail store.AlreadySealed d = d.geography ≡ None → ⊥
MayFail store.Halted d = ⊤
MayFail _ d = ⊥

abbrev pub IsUnloaded : Answer → Desk → Type 0
IsUnloaded (Unloaded why) d = MayFail why d
IsUnloaded _ d = ⊥

-- a step of a sweep was not done
abbrev pub IsUnswept : Answer → Type 0
IsUnswept (Unswept why) = ⊤
IsUnswept _ = ⊥

-- The device has failed, and the desk is still shown: each query is answered by it, and all else is refused.
abbrev pub Failed : Desk → List Request → List Answer → Type 0
Failed d [] [] = ⊤
Failed d [] (a ∷ told) = ⊥
Failed d (Change c ∷ asked) [] = ⊥
Failed d (Change c ∷ asked) (a ∷ told) = (a ≡ Said (Refused Halted)) × Failed d asked told
Failed d (Look q ∷ asked) [] = ⊥
Failed d (Look q ∷ asked) (a ∷ told) = (r : Reply) × (a ≡ Said r) × AskMay d q r × Failed d asked told
Failed d (Load g ∷ asked) [] = ⊥
Failed d (Load g ∷ asked) (a ∷ told) = IsUnloaded a d × Failed d asked told
Failed d (Sweep ∷ asked) [] = ⊥
Failed d (Sweep ∷ asked) (a ∷ told) = IsUnswept a × Failed d asked told

-- the device fails in a request that was to make the next desk: a stop leaves that or the one before
abbrev pub FailsAt : Desk → Desk → List Request → List Answer → Desk → Type 0
FailsAt d next asked told e = Failed d asked told × ((e ≡ d) ⊎ (e ≡ next))

-- From the desk d on, in one life, the requests are answered so, and what a stop after them leaves is the desk e. The device had failed t
-- times before, and u times in the end. Each query is answered by the desk, and each command by its step, or it is refused for want of
-- room or memory, and changes nothing; a geography is loaded or not; a step of a sweep changes nothing. Only where the device fails may a
-- request be refused for that: it was done as a whole or not at all, and nothing is done after it.
abbrev pub Lived : (t u : ℕ) → Desk → List Request → List Answer → Desk → Type 0
Lived t u d [] [] e = e ≡ d
Lived t u d [] (a ∷ told) e = ⊥
Lived t u d (Change c ∷ asked) [] e = ⊥
Lived t u d (Change c ∷ asked) (a ∷ told) e =
    ((r : Reply) × (next : Desk) × (a ≡ Said r) × StepOrRefused d c r next × Lived t u next asked told e)
    ⊎ ((t < u) × (a ≡ Said (Refused Halted)) × FailsAt d (step d c).1 asked told e)
Lived t u d (Look q ∷ asked) [] e = ⊥
Lived t u d (Look q ∷ asked) (a ∷ told) e = (r : Reply) × (a ≡ Said r) × AskMay d q r × Lived t u d asked told e
Lived t u d (Load g ∷ asked) [] e = ⊥
Lived t u d (Load g ∷ asked) (a ∷ told) e =
    ((a ≡ Loaded) × (d.geography ≡ None) × Lived t u (loaded_desk g.value) asked told e)
    ⊎ (((why : StoreError) × (a ≡ Unloaded why) × MayRefuse why d × Lived t u d asked told e)
    ⊎ ((t < u) × IsUnloaded a d × FailsAt d (after_load d.geography d g.value) asked told e))
Lived t u d (Sweep ∷ asked) [] e = ⊥
Lived t u d (Sweep ∷ asked) (a ∷ told) e =
    ((count : ℕ) × (a ≡ Swept count) × Lived t u d asked told e)
    ⊎ (((a ≡ Unswept store.Memory) × Lived t u d asked told e)
    ⊎ ((t < u) × IsUnswept a × FailsAt d d asked told e))

-- what was asked in a life, and the replies, or why it was not opened
abbrev pub Asked : Type 0
Asked = Vec Request Global

abbrev pub Told : Type 0
Told = Result (Vec Answer Global) StoreError
