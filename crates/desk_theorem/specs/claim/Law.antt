-- What holds of every list of events.
use Rattle.std.specs.Prelude.{ℕ, ◌≤◌, All, List, [], ◌∷◌, length, replicate, take, ⊤}
use Rattle.{desk_model.specs.{claim.Desk.Desk, declared.command.Command.Command}, desk_theorem.specs.claim.World.{World, world, move, run, shown_list, seen}}
use Rattle.desk_theorem.specs.declared.event.Event.{Event, TheVariants.{Commit, Acknowledge, Show, Visit, Learn, Stop}}
use mathlib.Core.List.{IsPrefix}

-- what each visitor knows is shown, what is shown is acknowledged, and that is changed
pub record IsOrdered (w : World) : Type 0 where
  pub views : All (λ v. v ≤ w.shown) w.views
  pub shown : w.shown ≤ w.acknowledged
  pub acknowledged : w.acknowledged ≤ length w.changes

-- the event is no stop
abbrev pub IsNoStop : Event → Type 0
IsNoStop (Commit c) = ⊤
IsNoStop Acknowledge = ⊤
IsNoStop Show = ⊤
IsNoStop (Visit i q) = ⊤
IsNoStop (Learn i told) = ⊤
IsNoStop (Stop kept) = ⊥

-- each begins the next
abbrev pub Rising : List (List Command) → Type 0
Rising [] = ⊤
Rising (x ∷ []) = ⊤
Rising (x ∷ y ∷ zs) = IsPrefix x y × Rising (y ∷ zs)

-- what holds after these events, from no change and visitors that know nothing
pub record IsLawful (d : Desk) (w : World) : Type 0 where
  pub ordered : IsOrdered w
  -- a stop, and any event, keeps what is acknowledged, and so what is shown
  pub acknowledged : (e : Event) → IsPrefix (take w.acknowledged w.changes) (move d w e).changes
  pub shown : (e : Event) → IsPrefix (shown_list w) (move d w e).changes
  -- no other event takes a change away
  pub changes : (e : Event) → IsNoStop e → IsPrefix w.changes (move d w e).changes
  -- until the next stop each visitor is answered after lists each of which begins the next
  pub answers : (more : List Event) → All IsNoStop more → (i : ℕ) → Rising (seen i d w more)

abbrev pub CoreLaw : Type 0
CoreLaw = (d : Desk) (visitors : ℕ) (events : List Event) → IsLawful d (run d (world [] 0 0 (replicate visitors 0)) events)
