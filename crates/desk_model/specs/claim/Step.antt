-- What a desk answers, and the desk that follows.
use Rattle.{std.specs.List.{slice_get, flat_map, find, list_any, zip}, desk_model.specs.claim.{Baf.{Values, Fault, value_at, body_read, whole}, Block.county_of, Desk.{Plan, Desk}}}
use Rattle.std.specs.Prelude.{ℕ, ◌+◌, ◌-◌, ◌==◌, Bool, not, ◌&&◌, if◌then◌else◌, nat_le, List, [], ◌∷◌, ◌++◌, map, length, Option, Some, None, option_map, is_some, Result, Ok, Err, unwrap_or, codes, decimal}
use Rattle.desk_model.specs.{claim.{Geography.GeographyModel, Padded.padded_decimal, Printed.printed, Subject.{AuditSubject, subject_of, revision_at}}, declared.kind.Kind.Kind}
use Rattle.desk_model.specs.declared.{block.BlockRow.BlockRow, command.{Command.{Command, TheVariants.{Create, Whole, Counties, Retire, Fork}}, Query.Query}, reply.PlanRow.PlanRow}
use Rattle.desk_model.specs.declared.{command.Query.TheVariants.{Plans, Blocks, Revision, Audit}, reply.{Refusal.Refusal, Reply.Reply}}
use Rattle.desk_model.specs.declared.reply.Refusal.TheVariants.{NoPlan, NoRevision, PlanExists, Stale, BadBody, NotWholeCounty, Limit, NotSealed}
use Rattle.std.specs.FinMap as map_of
use Rattle.desk_model.specs.declared.reply.Reply.TheVariants as reply

-- a desk has this many plans at most
abbrev pub plan_limit : ℕ
plan_limit = 65535

-- a reply and the desk after it
abbrev pub Outcome : Type 0
Outcome = Reply × Desk

abbrev pub refused : Desk → Refusal → Outcome
refused d r = (reply.Refused r, d)

-- a plan of that name, kind and number of districts; the plan that is there under the name comes last
abbrev pub create : Desk → List ℕ → Kind → ℕ → Option Plan → Outcome
create d name kind n (Some p) = refused d PlanExists
create d name kind n None =
    if nat_le plan_limit (map_of.len d.plans) then refused d Limit
    else (reply.Created name 0, record d { plans = map_of.insert d.plans name (record { kind = kind; n = n; revisions = [] }) })

-- a plan has this many revisions at most
abbrev pub revision_limit : ℕ
revision_limit = 65535

-- a plan with one more revision
abbrev pub revised : Desk → List ℕ → Plan → List ℕ → Outcome
revised d name p districts = (
  reply.Created name (length p.revisions + 1),
  record d { plans = map_of.insert d.plans name (record p { revisions = p.revisions ++ districts ∷ [] }) },
)

-- a present plan whose number of revisions is told, and that may have one more
abbrev pub on_revisions : Desk → Option Plan → ℕ → (Plan → Outcome) → Outcome
on_revisions d None after go = refused d NoPlan
on_revisions d (Some p) after go =
    if not (after == length p.revisions) then refused d (Stale (length p.revisions))
    else if nat_le revision_limit (length p.revisions) then refused d Limit
    else go p

-- the body was read: a revision of its own, or its first fault
abbrev pub whole_read : GeographyModel → Desk → List ℕ → Plan → Result Values Fault → Outcome
whole_read g d name p (Err f) = refused d (BadBody f.0 f.1)
whole_read g d name p (Ok listed) = revised d name p (whole g listed)

-- some block of the county is listed
abbrev pub is_county_listed : GeographyModel → Values → ℕ → Bool
is_county_listed g listed county = list_any (λ b. (county_of b.id == county) && is_some (value_at listed b.id)) g.blocks

-- the block is not listed, and another of its county is
abbrev pub is_left_out : GeographyModel → Values → BlockRow → Bool
is_left_out g listed b = not (is_some (value_at listed b.id)) && is_county_listed g listed (county_of b.id)

-- the least county of which only a part is listed: that of the first block that is left out, since blocks of one state rise by county
abbrev pub partly_listed : GeographyModel → Values → Option ℕ
partly_listed g listed = option_map (λ b. county_of b.id) (find (is_left_out g listed) g.blocks)

-- the districts of the blocks, where a block that is not listed keeps its last one, 0 before the first revision
abbrev pub patched : GeographyModel → Values → Option (List ℕ) → List ℕ
patched g listed None = whole g listed
patched g listed (Some last) = map (λ e. unwrap_or (value_at listed e.0.id) e.1) (zip g.blocks last)

-- a patch lists each county whole or not at all
abbrev pub county_patched : GeographyModel → Desk → List ℕ → Plan → Values → Option ℕ → Outcome
county_patched g d name p listed (Some county) = refused d (NotWholeCounty county)
county_patched g d name p listed None = revised d name p (patched g listed (revision_at p (length p.revisions)))

-- the body was read: a patch of the last revision, or its first fault
abbrev pub patch_read : GeographyModel → Desk → List ℕ → Plan → Result Values Fault → Outcome
patch_read g d name p (Err f) = refused d (BadBody f.0 f.1)
patch_read g d name p (Ok listed) = county_patched g d name p listed (partly_listed g listed)

-- a plan that is there is taken away with its revisions
abbrev pub retired : Desk → List ℕ → Option Plan → Outcome
retired d name None = refused d NoPlan
retired d name (Some p) = (reply.Retired name, record d { plans = map_of.remove d.plans name })

-- a plan like another, with one of its revisions alone
abbrev pub fork_of : Desk → List ℕ → Plan → Option (List ℕ) → Outcome
fork_of d name q None = refused d NoRevision
fork_of d name q (Some districts) = (reply.Created name 1, record d { plans = map_of.insert d.plans name (record q { revisions = districts ∷ [] }) })

-- the plan that is forked comes last, and the number of its revision
abbrev pub fork_from : Desk → List ℕ → Option Plan → ℕ → Outcome
fork_from d name None j = refused d NoPlan
fork_from d name (Some q) j = fork_of d name q (revision_at q j)

-- a new plan from a revision of another; the plan that is there under the new name comes last
abbrev pub fork : Desk → List ℕ → List ℕ × ℕ → Option Plan → Outcome
fork d name from (Some p) = refused d PlanExists
fork d name from None =
    if nat_le plan_limit (map_of.len d.plans) then refused d Limit
    else fork_from d name (map_of.get d.plans from.0) from.1

abbrev pub step_on : GeographyModel → Desk → Command → Outcome
step_on g d (Create name size) = create d name size.0 size.1 (map_of.get d.plans name)
step_on g d (Whole name after body) = on_revisions d (map_of.get d.plans name) after (λ p. whole_read g d name p (body_read g p.n body))
step_on g d (Counties name after body) = on_revisions d (map_of.get d.plans name) after (λ p. patch_read g d name p (body_read g p.n body))
step_on g d (Retire name) = retired d name (map_of.get d.plans name)
step_on g d (Fork name from) = fork d name from (map_of.get d.plans name)

-- with a geography or none
abbrev pub step_at : Option GeographyModel → Desk → Command → Outcome
step_at None d c = refused d NotSealed
step_at (Some g) d c = step_on g d c

-- the reply to a command and the desk after it, where there is room and memory and no device fails
abbrev pub step : Desk → Command → Outcome
step d c = step_at d.geography d c

-- a line of the list of plans
abbrev pub plan_row : List ℕ × Plan → PlanRow
plan_row e = record { name = e.0; kind = e.1.kind; n = e.1.n; revisions = length e.1.revisions }

abbrev pub place_text : Option ℕ → List ℕ
place_text None = []
place_text (Some place) = padded_decimal 5 place

-- a block's number, its city and its people
abbrev pub block_text : BlockRow → List ℕ
block_text b = padded_decimal 15 b.id ++ 124 ∷ place_text b.city ++ 124 ∷ decimal b.population ++ 10 ∷ []

abbrev pub blocks_text : GeographyModel → List ℕ
blocks_text g = codes "BLOCKID|PLACE|POPULATION\n" ++ flat_map block_text g.blocks

abbrev pub baf_of : GeographyModel → Plan → Option (List ℕ) → Reply
baf_of g p None = reply.Refused NoRevision
baf_of g p (Some districts) = reply.Baf (printed g p.kind districts)

-- revision k of a plan, from 1
abbrev pub revision_of : GeographyModel → Option Plan → ℕ → Reply
revision_of g None k = reply.Refused NoPlan
revision_of g (Some p) k = baf_of g p (if k == 0 then None else slice_get p.revisions (k - 1))

-- what a query is answered: a reply, or the report on a subject, whose text an audit decides
pub data Answer : Type 0 where
  says : Reply → Answer
  reports : GeographyModel → AuditSubject → Answer

abbrev pub audit_of : GeographyModel → Result AuditSubject Refusal → Answer
audit_of g (Err refusal) = says (reply.Refused refusal)
audit_of g (Ok subject) = reports g subject

-- with a geography or none; the plans rise by the bytes of their names
abbrev pub answer_at : Option GeographyModel → Desk → Query → Answer
answer_at g d Plans = says (reply.Plans (map plan_row (map_of.entries d.plans)))
answer_at None d Blocks = says (reply.Refused NotSealed)
answer_at (Some g) d Blocks = says (reply.Blocks (blocks_text g))
answer_at None d (Revision name k) = says (reply.Refused NotSealed)
answer_at (Some g) d (Revision name k) = says (revision_of g (map_of.get d.plans name) k)
answer_at None d (Audit name k senate congress) = says (reply.Refused NotSealed)
answer_at (Some g) d (Audit name k senate congress) = audit_of g
    (subject_of d (map_of.get d.plans name) k (record { senate = senate; congress = congress }))

-- what a query is answered, where there is memory
abbrev pub answer : Desk → Query → Answer
answer d q = answer_at d.geography d q
