-- What happens to a desk with visitors, as events on a list of changes.
use Rattle.{std.specs.List.slice_get, desk_model.specs.{claim.{Desk.Desk, Step.step}, declared.{command.Command.Command, reply.Reply.Reply}}}
use Rattle.std.specs.Prelude.{ℕ, ◌==◌, ◌&&◌, if◌then◌else◌, nat_le, nat_lt, max, Bool, true, false, List, [], ◌∷◌, ◌++◌, length, take, map, slice_set, Option, Some, None}
use Rattle.{desk_theorem.specs.declared.event.Event.{Event, TheVariants.{Commit, Acknowledge, Show, Visit, Learn, Stop}}, http_desk.specs.seats.desk_gallery.claim.After.after}
use Rattle.desk_model.specs.declared.reply.Reply.TheVariants as reply

abbrev pub accepts : Reply → Bool
accepts (reply.Created name revisions) = true
accepts (reply.Retired name) = true
accepts (reply.Plans rows) = false
accepts (reply.Blocks text) = false
accepts (reply.Baf text) = false
accepts (reply.Audited text) = false
accepts (reply.Refused refusal) = false

-- the changes, of which the first `acknowledged` are acknowledged and the first `shown` are shown, and how many each visitor knows
pub record World : Type 0 where
  pub changes : List Command
  pub acknowledged : ℕ
  pub shown : ℕ
  pub views : List ℕ

abbrev pub world : List Command → ℕ → ℕ → List ℕ → World
world changes acknowledged shown views = record { changes = changes; acknowledged = acknowledged; shown = shown; views = views }

-- the larger of what a visitor knows and what it is told, if it is there
abbrev pub learnt : List ℕ → ℕ → Option ℕ → ℕ → List ℕ
learnt views i None told = views
learnt views i (Some v) told = slice_set views i (max v told)

-- the world after an event. One that isn't possible changes nothing
abbrev pub move : Desk → World → Event → World
move d w (Commit c) =
    if (w.shown == length w.changes) && accepts (step (after d w.changes) c).0 then world (w.changes ++ c ∷ []) w.acknowledged w.shown w.views else w
move d w Acknowledge = if nat_lt w.acknowledged (length w.changes) then world w.changes (length w.changes) w.shown w.views else w
move d w Show = if nat_lt w.shown w.acknowledged then world w.changes w.acknowledged w.acknowledged w.views else w
move d w (Visit i q) = world w.changes w.acknowledged w.shown (slice_set w.views i w.shown)
move d w (Learn i told) = if nat_le told w.shown then world w.changes w.acknowledged w.shown (learnt w.views i (slice_get w.views i) told) else w
move d w (Stop kept) =
    if nat_le w.acknowledged kept && nat_le kept (length w.changes) then world (take kept w.changes) kept kept (map (λ _. 0) w.views) else w

-- the world after a list of events
abbrev pub run : Desk → World → List Event → World
run d w [] = w
run d w (e ∷ es) = run d (move d w e) es

-- what is shown
abbrev pub shown_list : World → List Command
shown_list w = take w.shown w.changes

-- the list after which a visitor is answered at an event, if it is its visit
abbrev pub seen_at : ℕ → World → Event → List (List Command)
seen_at i w (Commit c) = []
seen_at i w Acknowledge = []
seen_at i w Show = []
seen_at i w (Visit j q) = if (i == j) && nat_lt j (length w.views) then shown_list w ∷ [] else []
seen_at i w (Learn j told) = []
seen_at i w (Stop kept) = []

-- the lists after which a visitor is answered, one after the other
abbrev pub seen : ℕ → Desk → World → List Event → List (List Command)
seen i d w [] = []
seen i d w (e ∷ es) = seen_at i w e ++ seen i d (move d w e) es
