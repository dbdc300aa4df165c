-- Worked answers of the sample desk.
use Rattle.std.specs.Prelude.{◌≡◌, ℕ, List, [], ◌∷◌, Option, Some, None, codes}
use Rattle.desk_model.specs.claim.{Companions.no_companions, Desk.{Plan, Desk}, Room.need, Sample.{sample, sample_desk}, Step.{step, says, reports, answer, plan_row}}
use Rattle.desk_model.specs.{claim.Subject.AuditSubject, declared.{command.Command.TheVariants.{Create, Whole, Counties, Retire, Fork}, companions.Companions.Companions}}
use Rattle.desk_model.specs.declared.{command.Query.TheVariants.{Plans, Blocks, Revision, Audit}, kind.Kind.{Kind, TheVariants.{Congress, Senate, House}}}
use Rattle.desk_model.specs.declared.reply.Refusal.TheVariants.{NoPlan, NoRevision, PlanExists, Stale, NotWholeCounty, BadCompanion, NotSealed}
use Rattle.std.specs.FinMap as map_of
use Rattle.desk_model.specs.declared.reply.Reply.TheVariants as reply

abbrev pub name_a : List ℕ
name_a = codes "a"

abbrev pub name_b : List ℕ
name_b = codes "b"

abbrev pub name_c : List ℕ
name_c = codes "c"

abbrev pub plan_of : List (List ℕ) → Plan
plan_of revisions = record { kind = Congress; n = 2; revisions = revisions }

abbrev pub desk_of : Plan → Desk
desk_of p = record { geography = Some sample; plans = map_of.insert map_of.empty name_a p }

-- the sample desk with the plan a for congress, of two districts and with no revision
abbrev pub with_a : Desk
with_a = desk_of (plan_of [])

abbrev pub unsealed : Desk
unsealed = record { geography = None; plans = map_of.empty }

-- no plan at first; a plan is made once, and then listed; nothing is made before a geography is sealed
pub record PlansAreCreated : Type 0 where
  pub none : answer sample_desk Plans ≡ says (reply.Plans [])
  pub made : step sample_desk (Create name_a (Congress, 2)) ≡ (reply.Created name_a 0, with_a)
  pub again : step with_a (Create name_a (Congress, 2)) ≡ (reply.Refused PlanExists, with_a)
  pub listed : answer with_a Plans ≡ says (reply.Plans (plan_row (name_a, plan_of []) ∷ []))
  pub no_geography : step unsealed (Create name_a (Congress, 2)) ≡ (reply.Refused NotSealed, unsealed)

abbrev pub county_text : List ℕ
county_text = codes "BLOCKID|DISTRICT\n190010001001001|01\n190010001001002|01\n190030001001001|02\n190030001001002|02\n"

abbrev pub sample_text : List ℕ
sample_text = codes "BLOCKID|PLACE|POPULATION\n190010001001001|00100|505\n190010001001002|00100|505\n190030001001001|00100|495\n190030001001002||495\n"

-- the plan a with one revision, county by county
abbrev pub with_county : Desk
with_county = desk_of (plan_of ((1 ∷ 1 ∷ 2 ∷ 2 ∷ []) ∷ []))

-- a revision is read back, and the same post again is stale
pub record RevisionsAreKept : Type 0 where
  pub made : step with_a (Whole name_a 0 county_text) ≡ (reply.Created name_a 1, with_county)
  pub back : answer with_county (Revision name_a 1) ≡ says (reply.Baf county_text)
  pub stale : step with_county (Whole name_a 0 county_text) ≡ (reply.Refused (Stale 1), with_county)
  pub blocks : answer with_county Blocks ≡ says (reply.Blocks sample_text)

-- both blocks of county 003
abbrev pub patch_text : List ℕ
patch_text = codes "BLOCKID|DISTRICT\n190030001001001|1\n190030001001002|1\n"

-- a patch keeps the counties that it does not list, or leaves them unassigned before the first revision; a county in part is refused
pub record CountiesArePatched : Type 0 where
  pub made : step with_county (Counties name_a 1 patch_text) ≡ (reply.Created name_a 2, desk_of (plan_of ((1 ∷ 1 ∷ 2 ∷ 2 ∷ []) ∷ (1 ∷ 1 ∷ 1 ∷ 1 ∷ []) ∷ [])))
  pub first : step with_a (Counties name_a 0 patch_text) ≡ (reply.Created name_a 1, desk_of (plan_of ((0 ∷ 0 ∷ 1 ∷ 1 ∷ []) ∷ [])))
  pub part : step with_county (Counties name_a 1 (codes "BLOCKID|DISTRICT\n190030001001001|1\n")) ≡ (reply.Refused (NotWholeCounty 3), with_county)
  pub stale : step with_county (Counties name_a 0 patch_text) ≡ (reply.Refused (Stale 1), with_county)

-- a plan is taken away once
pub record PlansAreRetired : Type 0 where
  pub gone : step with_county (Retire name_a) ≡ (reply.Retired name_a, sample_desk)
  pub missing : step sample_desk (Retire name_a) ≡ (reply.Refused NoPlan, sample_desk)

-- the plan a with one revision, and the plan b with these
abbrev pub beside_a : Plan → Desk
beside_a b = record with_county { plans = map_of.insert with_county.plans name_b b }

abbrev pub with_fork : Desk
with_fork = beside_a (plan_of ((1 ∷ 1 ∷ 2 ∷ 2 ∷ []) ∷ []))

-- a plan is forked under a new name from a revision that is there; what changes after it changes one of the two alone
pub record PlansAreForked : Type 0 where
  pub made : step with_county (Fork name_b (name_a, 1)) ≡ (reply.Created name_b 1, with_fork)
  pub patched : step with_fork (Counties name_b 1 patch_text) ≡ (reply.Created name_b 2, beside_a (plan_of ((1 ∷ 1 ∷ 2 ∷ 2 ∷ []) ∷ (1 ∷ 1 ∷ 1 ∷ 1 ∷ []) ∷ [])))
  pub no_revision : step with_county (Fork name_b (name_a, 9)) ≡ (reply.Refused NoRevision, with_county)
  pub none_before : step with_county (Fork name_b (name_a, 0)) ≡ (reply.Refused NoRevision, with_county)
  pub no_plan : step with_county (Fork name_b (name_c, 1)) ≡ (reply.Refused NoPlan, with_county)
  pub itself : step with_county (Fork name_a (name_a, 1)) ≡ (reply.Refused PlanExists, with_county)
  pub again : step with_fork (Fork name_b (name_c, 1)) ≡ (reply.Refused PlanExists, with_fork)

abbrev pub kept : Kind → List ℕ → Plan
kept kind districts = record { kind = kind; n = 2; revisions = districts ∷ [] }

-- the house plan a county by county, and the plan b of the two diagonals
abbrev pub with_diagonals : Kind → Desk
with_diagonals kind = record {
  geography = Some sample;
  plans = map_of.insert (map_of.insert map_of.empty name_a (kept House (1 ∷ 1 ∷ 2 ∷ 2 ∷ []))) name_b (kept kind (1 ∷ 2 ∷ 2 ∷ 1 ∷ []));
}

abbrev pub beside_b : Option (List ℕ × ℕ)
beside_b = Some (name_b, 1)

-- the house plan beside those companions
abbrev pub house_subject : Companions (List ℕ) → AuditSubject
house_subject beside = record { kind = House; n = 2; districts = 1 ∷ 1 ∷ 2 ∷ 2 ∷ []; beside = beside }

-- a house plan is judged beside a senate plan and one for the congress, a senate plan alone; what isn't there is refused
pub record AuditsAreFound : Type 0 where
  pub beside : answer (with_diagonals Senate) (Audit name_a 1 beside_b None)
      ≡ reports sample (house_subject (record { senate = Some (1 ∷ 2 ∷ 2 ∷ 1 ∷ []); congress = None }))
  pub beside_congress : answer (with_diagonals Congress) (Audit name_a 1 None beside_b)
      ≡ reports sample (house_subject (record { senate = None; congress = Some (1 ∷ 2 ∷ 2 ∷ 1 ∷ []) }))
  pub alone : answer (with_diagonals Senate) (Audit name_b 1 None None)
      ≡ reports sample (record { kind = Senate; n = 2; districts = 1 ∷ 2 ∷ 2 ∷ 1 ∷ []; beside = no_companions })
  pub no_plan : answer with_a (Audit name_b 1 None None) ≡ says (reply.Refused NoPlan)
  pub no_revision : answer (with_diagonals Senate) (Audit name_a 2 (Some (name_b, 0)) (Some (name_b, 0))) ≡ says (reply.Refused NoRevision)
  pub no_companion : answer (with_diagonals Senate) (Audit name_a 1 (Some (name_b, 0)) None) ≡ says (reply.Refused BadCompanion)
  pub of_house : answer (with_diagonals Senate) (Audit name_a 1 (Some (name_a, 1)) None) ≡ says (reply.Refused BadCompanion)
  pub for_senate : answer (with_diagonals Senate) (Audit name_b 1 beside_b None) ≡ says (reply.Refused BadCompanion)
  pub of_senate : answer (with_diagonals Senate) (Audit name_a 1 None beside_b) ≡ says (reply.Refused BadCompanion)
  pub second_missing : answer (with_diagonals Senate) (Audit name_a 1 beside_b (Some (name_b, 2))) ≡ says (reply.Refused BadCompanion)
  pub for_congress : answer (with_diagonals Congress) (Audit name_b 1 None beside_b) ≡ says (reply.Refused BadCompanion)

-- the room that commands need: 13 pages for a row
pub record RoomIsCounted : Type 0 where
  pub create : need sample_desk (Create name_a (Congress, 2)) ≡ 26
  pub first : need with_a (Whole name_a 0 county_text) ≡ 117
  pub patch : need with_county (Counties name_a 1 patch_text) ≡ 78
  pub unchanged : need with_county (Whole name_a 1 county_text) ≡ 39
  pub retire : need with_county (Retire name_a) ≡ 26
  pub fork : need with_county (Fork name_b (name_a, 1)) ≡ 117
