-- What no promise rests on, beside claim/Runs.antt.
use Rattle.std.specs.Prelude.{◌≡◌, ◌≤◌, ◌+◌, ℕ, All, List, [], ◌∷◌, length, map}
use Rattle.{desk_model.specs.{claim.Desk.Desk, declared.command.Command.Command}, desk_theorem.specs.{claim.{Law.IsNoStop, World.{World, run, seen}}, declared.event.Event.Event}}
use Rattle.{desk_theorem.specs.claim.Runs.{Heard, IsRun, answers_in, beginning, list_of, standing}, http_desk.specs.seats.desk_gallery.claim.Working.AreAccepted}
use mathlib.Core.List.{IsPrefix}

-- it hears of more and more, from this list on, and in the end of no more than what is shown
abbrev pub Grows : List Command → List Heard → List Command → Type 0
Grows v [] shown = IsPrefix v shown
Grows v (h ∷ calls) shown = IsPrefix v (list_of h) × Grows (list_of h) calls shown

-- no visitor has heard of more than is shown, each by itself
abbrev pub AreWithin : List Command → List (List Heard) → Type 0
AreWithin shown visitors = All (λ calls. Grows [] calls shown) visitors

-- whatever they did, as far as it is within what is shown
abbrev pub HasRunsWithin : Desk → List Command → List Command → Type 0
HasRunsWithin d shown all = (visitors : List (List Heard)) → AreWithin shown visitors → (events : List Event) × IsRun d shown all visitors events

-- what is shown, and what each visitor has heard of, is what events without a stop lead to
abbrev pub IsReached : Desk → List Command → List Command → List (List Command) → Type 0
IsReached d shown all heard = (events : List Event) × All IsNoStop events × (run d (beginning (length heard)) events ≡ standing shown all heard)

pub record OfficeLaw : Type 0 where
  -- changes that were accepted one after the other, of which at most the last isn't shown
  pub runs : (d : Desk) (shown all : List Command) → AreAccepted d all
      → IsPrefix shown all → length all ≤ length shown + 1 → HasRunsWithin d shown all
  -- the lists after which a visitor is answered
  pub seen : (i : ℕ) (d : Desk) (w : World) (events : List Event) → map (λ a. a.1) (answers_in i d w events) ≡ seen i d w events
