-- An office and its visitors as a world that events lead to.
use Rattle.std.specs.{List.slice_get, Prelude.{◌≡◌, ◌==◌, ◌&&◌, if◌then◌else◌, nat_lt, ℕ, All, List, [], ◌∷◌, ◌++◌, length, map, replicate, Some, ⊤}}
use Rattle.{desk_model.specs.{claim.Desk.Desk, declared.command.{Command.Command, Query.Query}}, desk_theorem.specs.{claim.Law.IsNoStop, declared.event.Event.Event}}
use Rattle.desk_theorem.specs.{claim.World.{World, world, move, run, shown_list}, declared.event.Event.TheVariants.{Commit, Acknowledge, Show, Visit, Learn, Stop}}
use mathlib.Core.List.{IsPrefix}

-- with the office's lock free all that is shown is acknowledged, and only a fault leaves a change after it
abbrev pub standing : List Command → List Command → List (List Command) → World
standing shown all heard = world all (length shown) (length shown) (map (λ v. length v) heard)

-- nothing is changed, and no visitor has heard of anything
abbrev pub beginning : ℕ → World
beginning visitors = world [] 0 0 (replicate visitors 0)

-- What a visitor did, with all that it has heard of then: it was let in, and a query was answered by what it saw; or it was told.
pub data Heard : Type 0 where
  saw : Query → List Command → Heard
  told : List Command → Heard

abbrev pub list_of : Heard → List Command
list_of (Heard.saw q l) = l
list_of (Heard.told l) = l

-- what it has heard of in the end
abbrev pub heard_of : List Command → List Heard → List Command
heard_of v [] = v
heard_of v (h ∷ calls) = heard_of (list_of h) calls

-- its queries, each with the list after which it was answered
abbrev pub answer_of : Heard → List (Query × List Command)
answer_of (Heard.saw q l) = (q, l) ∷ []
answer_of (Heard.told l) = []

abbrev pub answers : List Heard → List (Query × List Command)
answers [] = []
answers (h ∷ calls) = answer_of h ++ answers calls

-- the same of a visitor in a world that moves
abbrev pub answer_at : ℕ → World → Event → List (Query × List Command)
answer_at i w (Commit c) = []
answer_at i w Acknowledge = []
answer_at i w Show = []
answer_at i w (Visit j q) = if (i == j) && nat_lt j (length w.views) then (q, shown_list w) ∷ [] else []
answer_at i w (Learn j known) = []
answer_at i w (Stop kept) = []

abbrev pub answers_in : ℕ → Desk → World → List Event → List (Query × List Command)
answers_in i d w [] = []
answers_in i d w (e ∷ es) = answer_at i w e ++ answers_in i d (move d w e) es

-- the events lead to what is shown and to what each visitor has heard of; none is a stop, and each visitor is answered as it was
pub record IsRun (d : Desk) (shown all : List Command) (visitors : List (List Heard)) (events : List Event) : Type 0 where
  pub goes : All IsNoStop events
  pub leads : run d (beginning (length visitors)) events ≡ standing shown all (map (heard_of []) visitors)
  pub answered : (i : ℕ) (calls : List Heard) → slice_get visitors i ≡ Some calls
      → answers_in i d (beginning (length visitors)) events ≡ answers calls

-- a visitor hears of more and more, from this list on, as each of its calls says
abbrev pub Rises : List Command → List Heard → Type 0
Rises v [] = ⊤
Rises v (h ∷ calls) = IsPrefix v (list_of h) × Rises (list_of h) calls

-- what visitors that have heard of these lists may have done
abbrev pub AreCallsOf : List (List Command) → List (List Heard) → Type 0
AreCallsOf heard visitors = All (λ calls. Rises [] calls) visitors × (map (heard_of []) visitors ≡ heard)

-- whatever visitors did that have heard of these lists
abbrev pub HasRuns : Desk → List Command → List Command → List (List Command) → Type 0
HasRuns d shown all heard = (visitors : List (List Heard)) → AreCallsOf heard visitors → (events : List Event) × IsRun d shown all visitors events
