-- What a catalogue makes of a command.
use Rattle.std.specs.Prelude.{◌≡◌, ℕ, ◌+◌, ◌≤◌}
use Rattle.desk_model.specs.{claim.{Desk.Desk, Step.{step, revision_limit}}, declared.command.Command.{Command, TheVariants.{Create, Whole, Counties, Retire, Fork}}}
use Rattle.desk_model.specs.declared.reply.Reply.{Reply}
use Rattle.desk_model.specs.declared.reply.Reply.TheVariants as reply

-- the number of revisions of the plan after a command that is accepted
abbrev pub revisions_after : Command → ℕ
revisions_after (Create name size) = 0
revisions_after (Whole name after body) = after + 1
revisions_after (Counties name after body) = after + 1
revisions_after (Retire name) = 0
revisions_after (Fork name from) = 1

-- the reply to a command where it is accepted
abbrev pub acceptance : Command → Reply
acceptance (Create name size) = reply.Created name 0
acceptance (Whole name after body) = reply.Created name (after + 1)
acceptance (Counties name after body) = reply.Created name (after + 1)
acceptance (Retire name) = reply.Retired name
acceptance (Fork name from) = reply.Created name 1

-- the step accepts the command with the reply that is announced, whose number is within the limit, and leaves this desk
pub record IsAfter (d : Desk) (c : Command) (new : Desk) : Type 0 where
  pub reply : (step d c).0 ≡ acceptance c
  pub few : revisions_after c ≤ revision_limit
  pub desk : new ≡ (step d c).1
