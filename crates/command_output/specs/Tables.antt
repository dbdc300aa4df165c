-- The words of each place, and what stands before a code in a fault's line.
use Rattle.std.specs.{Borrow.Bor, Prelude.{ℕ, Bool, ◌||◌, List, [], ◌∷◌, map, codes, if◌then◌else◌, Option, Some, None}, Str.bytes_eq}
use Rattle.command_output.specs.declared.{audits.TheConstants.AUDIT, census.TheConstants.{GEO, SEGMENT, JOIN}, explanation.{Explanation.Explanation, FaultPlace.FaultPlace}}
use Rattle.command_output.specs.declared.explanation.FaultPlace.TheVariants.{EveryFile, Geo, Segment, Join, Gal, Plan, Log, Store, Verify, Command, Bytes, Requests, Audit, ToolPlan, ToolReport, ToolNeighbours, ToolServer, ToolDesk, ToolExport, ToolKeep}
use Rattle.command_output.specs.declared.{explanation.Reason.{Reason, TheVariants.{InUse, NotPermitted, NoRoom, Stands, IsStore}}, http.TheConstants.{BYTES, REQUESTS}}
use Rattle.command_output.specs.declared.{file_tools.TheConstants.{TOOL_PLAN, TOOL_REPORT, TOOL_NEIGHBOURS}, plans.TheConstants.{EVERY_FILE, GAL, LOG, PLAN}}
use Rattle.command_output.specs.declared.{server_tools.TheConstants.{TOOL_SERVER, TOOL_DESK, TOOL_EXPORT, TOOL_KEEP}, stores.TheConstants.{STORE, VERIFY, COMMAND}}

-- all places, in the order in which they are listed
abbrev pub places : List FaultPlace
places = EveryFile ∷ Geo ∷ Segment ∷ Join ∷ Gal ∷ Plan ∷ Log ∷ Store ∷ Verify ∷ Command ∷ Bytes ∷ Requests
    ∷ Audit ∷ ToolPlan ∷ ToolReport ∷ ToolNeighbours ∷ ToolServer ∷ ToolDesk ∷ ToolExport ∷ ToolKeep ∷ []

-- a code, what it carries, its case, what it means, and what to do
pub record Words : Type 0 where
  pub code : List ℕ
  pub carries : List ℕ
  pub case : List ℕ
  pub means : List ℕ
  pub remedy : List ℕ

abbrev pub told : Explanation → Words
told e = record { code = e.code.now; carries = e.carries.now; case = e.case.now; means = e.means.now; remedy = e.remedy.now }

-- what a row of a table says
abbrev pub FaultRow : Type 0
FaultRow = Bor (List ℕ) × Bor (List ℕ) × Bor (List ℕ) × Bor (List ℕ) × Bor (List ℕ)

abbrev pub row_words : FaultRow → Words
row_words row = record { code = row.0.now; carries = row.1.now; case = row.2.now; means = row.3.now; remedy = row.4.now }

-- the same of a row as it is written
abbrev pub Text : Type 0
Text = record { now : List ℕ }

abbrev pub written : Text × Text × Text × Text × Text → Words
written row = record { code = row.0.now; carries = row.1.now; case = row.2.now; means = row.3.now; remedy = row.4.now }

-- what the rows of a place's table say
unfoldable pub words_at : FaultPlace → List Words
words_at EveryFile = map written EVERY_FILE
words_at Geo = map written GEO
words_at Segment = map written SEGMENT
words_at Join = map written JOIN
words_at Gal = map written GAL
words_at Plan = map written PLAN
words_at Log = map written LOG
words_at Store = map written STORE
words_at Verify = map written VERIFY
words_at Command = map written COMMAND
words_at Bytes = map written BYTES
words_at Requests = map written REQUESTS
words_at Audit = map written AUDIT
words_at ToolPlan = map written TOOL_PLAN
words_at ToolReport = map written TOOL_REPORT
words_at ToolNeighbours = map written TOOL_NEIGHBOURS
words_at ToolServer = map written TOOL_SERVER
words_at ToolDesk = map written TOOL_DESK
words_at ToolExport = map written TOOL_EXPORT
words_at ToolKeep = map written TOOL_KEEP

-- what a place is called
unfoldable pub place_name : FaultPlace → List ℕ
place_name EveryFile = codes "any file"
place_name Geo = codes "geo"
place_name Segment = codes "seg1 seg2 seg3"
place_name Join = codes "join"
place_name Gal = codes "gal"
place_name Plan = codes "plan senate congress"
place_name Log = codes "log"
place_name Store = codes "store"
place_name Verify = codes "verify"
place_name Command = codes "standard streams and sockets"
place_name Bytes = codes "bytes of an HTTP request"
place_name Requests = codes "HTTP"
place_name Audit = codes "test of an audit"
place_name ToolPlan = codes "tools/plan"
place_name ToolReport = codes "tools/report"
place_name ToolNeighbours = codes "tools/neighbours"
place_name ToolServer = codes "tools that ask a server"
place_name ToolDesk = codes "tools/desk"
place_name ToolExport = codes "tools/export and tools/import"
place_name ToolKeep = codes "tools/backup and tools/health and tools/log and tools/release"

-- the case of a device's reason, and of a command that did what it was asked for
unfoldable pub case_at : Option Reason → List ℕ
case_at None = codes ""
case_at (Some InUse) = codes "in use"
case_at (Some NotPermitted) = codes "not permitted"
case_at (Some NoRoom) = codes "no room"
case_at (Some Stands) = codes "of `format`, `load`, `sweep` or `migrate`"
case_at (Some IsStore) = codes "a store"

-- whose fault a line tells, by the word after the program's name: a file's role, or a command
abbrev pub is_segment_role : List ℕ → Bool
is_segment_role role = bytes_eq role (codes "seg1") || bytes_eq role (codes "seg2") || bytes_eq role (codes "seg3")

abbrev pub is_plan_role : List ℕ → Bool
is_plan_role role = bytes_eq role (codes "plan") || bytes_eq role (codes "senate") || bytes_eq role (codes "congress")

abbrev pub is_command : List ℕ → Bool
is_command role = bytes_eq role (codes "check") || bytes_eq role (codes "explain") || bytes_eq role (codes "format") || bytes_eq role (codes "load")
    || bytes_eq role (codes "migrate") || bytes_eq role (codes "serve") || bytes_eq role (codes "stat") || bytes_eq role (codes "sweep")
    || bytes_eq role (codes "talk") || bytes_eq role (codes "verify")

-- a command that makes or changes a store and then prints what it did
abbrev pub is_store_command : List ℕ → Bool
is_store_command role = bytes_eq role (codes "format") || bytes_eq role (codes "load") || bytes_eq role (codes "sweep") || bytes_eq role (codes "migrate")

-- of such a command's streams, that this is done; else the reason that is known
abbrev pub reason_at : List ℕ → Option Reason → Option Reason
reason_at role reason = if is_store_command role then Some Stands else reason

unfoldable pub place_at : List ℕ → Option FaultPlace
place_at role =
    if bytes_eq role (codes "geo") then Some Geo
    else if is_segment_role role then Some Segment
    else if bytes_eq role (codes "join") then Some Join
    else if bytes_eq role (codes "gal") then Some Gal
    else if is_plan_role role then Some Plan
    else if bytes_eq role (codes "store") then Some Store
    else if bytes_eq role (codes "log") then Some Log
    else if is_command role then Some Command
    else None
