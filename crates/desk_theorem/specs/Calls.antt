-- Each call at an office as events.
use Rattle.std.specs.{List.slice_get, Prelude.{◌≡◌, ◌⊎◌, ℕ, List, [], ◌∷◌, ◌++◌, length, slice_set, Some}}
use Rattle.desk_model.specs.{claim.{Desk.Desk, Outcome.IsAcceptance, Step.step}, declared.{command.{Command.Command, Query.Query}, reply.Reply.Reply}}
use Rattle.desk_theorem.specs.{claim.{Runs.standing, World.{move, run, shown_list}}, declared.event.Event.TheVariants.{Commit, Acknowledge, Show, Visit, Learn}}
use Rattle.http_desk.specs.seats.desk_gallery.{Working.Joins, claim.After.after}
use mathlib.Core.List.{IsPrefix}

-- A command at a front: one that is accepted is written, acknowledged and shown; one whose commit met a fault may be written; no
-- other moves anything.
pub record IsMoved (d : Desk) (old : List Command × List Command) (c : Command) (reply : Reply)
    (new : List Command × List Command) (heard : List (List Command)) : Type 0 where
  pub accepted : IsAcceptance reply → standing new.0 new.1 heard ≡ run d (standing old.0 old.1 heard) (Commit c ∷ Acknowledge ∷ Show ∷ [])
  pub other : (IsAcceptance reply → ⊥) → (standing new.0 new.1 heard ≡ standing old.0 old.1 heard)
      ⊎ (standing new.0 new.1 heard ≡ move d (standing old.0 old.1 heard) (Commit c))

-- Each call by what its contract says of the lists. Some visitors have heard of these lists, this much is shown, and nothing is
-- pending where nothing else is said.
pub record CallsLaw : Type 0 where
  -- a change is appended whose command the desk accepts
  pub append : (d : Desk) (shown : List Command) (heard : List (List Command)) (c : Command) → IsAcceptance (step (after d shown) c).0
      → standing shown (shown ++ c ∷ []) heard ≡ move d (standing shown shown heard) (Commit c)
  -- its commit returns, and it is shown
  pub show : (d : Desk) (shown : List Command) (heard : List (List Command)) (c : Command)
      → standing (shown ++ c ∷ []) (shown ++ c ∷ []) heard ≡ run d (standing shown (shown ++ c ∷ []) heard) (Acknowledge ∷ Show ∷ [])
  pub command : (d : Desk) (old : List Command × List Command) (c : Command) (reply : Reply)
      (new : List Command × List Command) (heard : List (List Command)) → Joins d old c reply new → IsMoved d old c reply new heard
  -- a visitor is let in where this much is shown, and sees the desk after it
  pub visit : (d : Desk) (shown all : List Command) (heard : List (List Command)) (i : ℕ) (q : Query) → IsPrefix shown all
      → (standing shown all (slice_set heard i shown) ≡ move d (standing shown all heard) (Visit i q))
      × (shown_list (standing shown all heard) ≡ shown)
  -- a visitor who has heard of this is told of that, and has heard of the longer one then
  pub learn : (d : Desk) (shown all : List Command) (heard : List (List Command)) (i : ℕ) (v told new : List Command)
      → slice_get heard i ≡ Some v → IsPrefix told shown
      → (new ≡ v) ⊎ (new ≡ told) → IsPrefix v new → IsPrefix told new
      → standing shown all (slice_set heard i new) ≡ move d (standing shown all heard) (Learn i (length told))
