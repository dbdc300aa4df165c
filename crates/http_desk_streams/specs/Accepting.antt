-- What an accepted command did, by the command alone.
use Rattle.std.specs.{Prelude.{ℕ, ◌+◌, ◌==◌, if◌then◌else◌, Bool, true, false, List, length, Option, Some, None}, Str.Lines.lines}
use Rattle.{baf_text.specs.Body.rows, desk_model.specs.declared.{command.Command.{Command, TheVariants.{Create, Whole, Counties, Retire, Fork}}, reply.Reply.Reply}}
use Rattle.http_desk_streams.specs.declared.accepted.Accepted.{Accepted, TheVariants.{Created, Revised, Forked, Deleted}}
use Rattle.desk_model.specs.declared.reply.Reply.TheVariants as reply

-- 1 where a line has bytes
abbrev pub one_row : List ℕ → ℕ
one_row line = if length line == 0 then 0 else 1

-- how many lines after the first have bytes
abbrev pub rows_in : List ℕ → ℕ
rows_in text = length (rows (lines text))

-- what a command does where it is accepted
abbrev pub done_by : Command → Accepted
done_by (Create plan size) = Created plan
done_by (Whole plan after body) = Revised plan (after + 1) (rows_in body)
done_by (Counties plan after body) = Revised plan (after + 1) (rows_in body)
done_by (Retire plan) = Deleted plan
done_by (Fork plan from) = Forked plan from

-- the same, where somebody listens
abbrev pub deed_where : Bool → Command → Option Accepted
deed_where true command = Some (done_by command)
deed_where false command = None

-- the plan that it made, revised or took away
abbrev pub plan_of : Accepted → List ℕ
plan_of (Created plan) = plan
plan_of (Revised plan revision blocks) = plan
plan_of (Forked plan from) = plan
plan_of (Deleted plan) = plan

-- what a command would do, if anything is known of that, is heard where the reply accepts it
abbrev pub heard_of : Option Accepted → Reply → Option Accepted
heard_of deed (reply.Created plan revisions) = deed
heard_of deed (reply.Retired plan) = deed
heard_of deed (reply.Plans rows) = None
heard_of deed (reply.Blocks text) = None
heard_of deed (reply.Baf text) = None
heard_of deed (reply.Audited text) = None
heard_of deed (reply.Refused refusal) = None
