-- The bodies of answers, as compact JSON with its keys in byte order (RFC 8259).
use Rattle.std.specs.Prelude.{ℕ, List, ◌++◌, map, codes, decimal}
use Rattle.{desk_model.specs.{claim.{Baf.fault_code, Kind.kind_name, Padded.padded_decimal}, declared.reply.{PlanRow.PlanRow, Refusal.Refusal}}, serde_json.specs.View.items_of}
use Rattle.desk_model.specs.declared.reply.Refusal.TheVariants.{NoPlan, NoRevision, PlanExists, Stale, BadBody, NotWholeCounty, BadCompanion, Limit, Full, Memory, Halted, NotSealed}
use Rattle.serde_json.specs.{Data.{Data, number, unsigned, string, array, object, member, no_members}, Written.compact_text}

-- a line of the list of plans
abbrev pub row_data : PlanRow → Data
row_data row =
    object (member (codes "districts") (number (unsigned row.n))
    (member (codes "kind") (string (kind_name row.kind))
    (member (codes "name") (string row.name)
    (member (codes "revisions") (number (unsigned row.revisions)) no_members))))

abbrev pub plans_data : List PlanRow → Data
plans_data rows = object (member (codes "plans") (array (items_of (map row_data rows))) no_members)

abbrev pub plans_body : List PlanRow → List ℕ
plans_body rows = compact_text (plans_data rows)

-- a plan stands with so many revisions
abbrev pub created_body : List ℕ → ℕ → List ℕ
created_body name revisions = codes "{\"plan\":\"" ++ name ++ codes "\",\"revisions\":" ++ decimal revisions ++ codes "}"

-- a plan is taken away
abbrev pub retired_body : List ℕ → List ℕ
retired_body name = codes "{\"plan\":\"" ++ name ++ codes "\",\"retired\":true}"

-- an error by its name
abbrev pub error_body : List ℕ → List ℕ
error_body name = codes "{\"error\":\"" ++ name ++ codes "\"}"

-- why a command or a query is refused
abbrev pub refusal_body : Refusal → List ℕ
refusal_body NoPlan = error_body (codes "NoPlan")
refusal_body NoRevision = error_body (codes "NoRevision")
refusal_body PlanExists = error_body (codes "PlanExists")
refusal_body (Stale current) = codes "{\"current\":" ++ decimal current ++ codes ",\"error\":\"Stale\"}"
refusal_body (BadBody code line) = codes "{\"code\":\"" ++ fault_code code ++ codes "\",\"error\":\"BadBody\",\"line\":" ++ decimal line ++ codes "}"
refusal_body (NotWholeCounty county) = codes "{\"county\":\"" ++ padded_decimal 3 county ++ codes "\",\"error\":\"NotWholeCounty\"}"
refusal_body BadCompanion = error_body (codes "BadCompanion")
refusal_body Limit = error_body (codes "Limit")
refusal_body Full = error_body (codes "Full")
refusal_body Memory = error_body (codes "Memory")
refusal_body Halted = error_body (codes "Halted")
refusal_body NotSealed = error_body (codes "NotSealed")
