-- Lemmas on the definitions of Accepted.
use Rattle.{std.{specs.{List.slice_get, Prelude.{◌==◌, not, nat_le}}, proofs.lemmas.Bool.{leb-false, eqb-true}}, desk_model.specs.claim.{Baf.{Values, Fault}, Desk.{Plan, Desk}}}
use Rattle.std.proofs.Common.{rules, ◌≡◌, ◌<◌, ◌≤◌, ◌+◌, ◌-◌, ℕ, suc, Bool, cond, List, [], ◌∷◌, ◌++◌, length, Option, Some, None, Result, Ok, refl, sym, ap, ◌∙◌, arith, length-append}
use Rattle.desk_model.specs.claim.{Geography.GeographyModel, Room.{changed, revision_rows, added_rows, command_rows, fork_rows, forked_rows, last_revision}, Subject.revision_at}
use Rattle.desk_model.specs.claim.Step.{step, step_at, create, on_revisions, whole_read, patch_read, county_patched, patched, refused, retired, fork, fork_from, fork_of, plan_limit, revision_limit, Outcome}
use Rattle.desk_model.specs.declared.{command.Command.{Command, TheVariants.{Create, Whole, Counties, Retire, Fork}}, kind.Kind.Kind, reply.Refusal.TheVariants.{Limit, Stale}}
use Rattle.{desk_store_catalogue.specs.{Kept.revision_in, claim.Accepting.IsAfter}, desk_store_rows.specs.Changes.with_revision, plan_revisions.specs.Accepted.IsRevised}
use Rattle.plan_revisions.specs.{Plans.{TakesPlan, with_plan, HasPlanAt, without_plan, TakesFork, with_fork}, claim.Rows.added_by}
use Rattle.{desk_store_catalogue.proofs.Drafted.{end_of, put_there, no_zero}, plan_revisions.proofs.Within.{AreSmall, body_small, patched_within, revision_within, whole_within}}
use Rattle.std.specs.FinMap as map_of
use Rattle.desk_model.specs.declared.reply.Reply.TheVariants as reply

-- ---- a plan is created
module _ (d : Desk) (name : List ℕ) (size : Kind × ℕ) where
  abbrev TellsPlan : Outcome → Type 0
  TellsPlan o = o.0 ≡ reply.Created name 0 → TakesPlan name d × (o.1 ≡ with_plan name size d)

  plan_room : (g : GeographyModel) → d.geography ≡ Some g → map_of.get d.plans name ≡ None → (full : Bool) → nat_le plan_limit (map_of.len d.plans) ≡ full → TellsPlan (cond full (refused d Limit) (reply.Created name 0, with_plan name size d))
  plan_room g geography none full is = search (arith, g, geography, leb-false, map_of.len)

  plan_missing : (g : GeographyModel) → d.geography ≡ Some g → (p : Option Plan) → map_of.get d.plans name ≡ p → TellsPlan (create d name size.0 size.1 p)
  plan_missing g geography p is = search (arith, plan_room, g, geography, map_of.len)

  plan_geography : (geo : Option GeographyModel) → d.geography ≡ geo → TellsPlan (step_at geo d (Create name size))
  plan_geography geo is = search (arith, plan_missing, map_of.get)

  pub created : TellsPlan (step d (Create name size))
  created = plan_geography d.geography refl

-- ---- a plan is taken away
module _ (d : Desk) (name : List ℕ) where
  abbrev TellsGone : Outcome → Type 0
  TellsGone o = o.0 ≡ reply.Retired name → HasPlanAt name d × (o.1 ≡ without_plan name d)

  gone_there : (p : Option Plan) → map_of.get d.plans name ≡ p → TellsGone (retired d name p)
  gone_there p is = search (arith)

  gone_geography : (geo : Option GeographyModel) → TellsGone (step_at geo d (Retire name))
  gone_geography geo = search (arith, gone_there, map_of.get)

  pub taken_away : TellsGone (step d (Retire name))
  taken_away = gone_geography d.geography

-- ---- a plan is forked
-- the desk takes the fork
pub record IsForked (d : Desk) (name : List ℕ) (from : List ℕ × ℕ) (e : Desk) : Type 0 where
  pub g : GeographyModel
  pub geography : d.geography ≡ Some g
  pub takes : TakesFork g name from d
  pub desk : e ≡ with_fork name from d

module _ (d : Desk) (name : List ℕ) (from : List ℕ × ℕ) where
  abbrev TellsFork : Outcome → Type 0
  TellsFork o = o.0 ≡ reply.Created name 1 → IsForked d name from o.1

  module _ (g : GeographyModel) (geography : d.geography ≡ Some g) (missing : map_of.get d.plans name ≡ None) where
    fork_revision : map_of.len d.plans < plan_limit → (q : Plan) → map_of.get d.plans from.0 ≡ Some q → (at : Option (List ℕ)) → revision_at q from.1 ≡ at → TellsFork (fork_of d name q at)
    fork_revision room q there None is = λ told. absurd (cc)
    fork_revision room q there (Some districts) is = λ told. record {
      g = g;
      geography = geography;
      takes = record { missing = missing; room = room; districts = districts; source = record { geography = geography; plan = q; there = there; is = is } };
      desk = ap (λ (at : Option (List ℕ)). (fork_of d name q at).1) (sym is) ∙ ap (λ (p : Option Plan). (fork_from d name p from.1).1) (sym there);
    }

    fork_there : map_of.len d.plans < plan_limit → (q : Option Plan) → map_of.get d.plans from.0 ≡ q → TellsFork (fork_from d name q from.1)
    fork_there room q is = search (arith, fork_revision)

    fork_room : (full : Bool) → nat_le plan_limit (map_of.len d.plans) ≡ full → TellsFork (cond full (refused d Limit) (fork_from d name (map_of.get d.plans from.0) from.1))
    fork_room full is = search (arith, fork_there, leb-false, map_of.len, map_of.get)

  fork_missing : (g : GeographyModel) → d.geography ≡ Some g → (p : Option Plan) → map_of.get d.plans name ≡ p → TellsFork (fork d name from p)
  fork_missing g geography p is = search (arith, fork_room, g, geography, map_of.len)

  fork_geography : (geo : Option GeographyModel) → d.geography ≡ geo → TellsFork (step_at geo d (Fork name from))
  fork_geography geo is = search (arith, fork_missing, map_of.get)

  pub forked : TellsFork (step d (Fork name from))
  forked = fork_geography d.geography refl

  -- so many rows are written
  pub rows_forked : (g : GeographyModel) → d.geography ≡ Some g → command_rows d (Fork name from) ≡ fork_rows g
  rows_forked g is = ap forked_rows is

-- ---- a plan gets a revision more
module _ (d : Desk) (name : List ℕ) (after : ℕ) where
  abbrev TellsRevision : Outcome → Type 0
  TellsRevision o = o.0 ≡ reply.Created name (after + 1) → IsRevised d name after o.1

  -- what is made of a plan that is there and may have one more
  abbrev TellsOf : GeographyModel → (Plan → Outcome) → Type 0
  TellsOf g go = (p : Plan) → map_of.get d.plans name ≡ Some p → after ≡ length p.revisions → length p.revisions < revision_limit → TellsRevision (go p)

  revision_room : (g : GeographyModel) (go : Plan → Outcome) → TellsOf g go → (p : Plan) → map_of.get d.plans name ≡ Some p → after ≡ length p.revisions → (full : Bool) → nat_le revision_limit (length p.revisions) ≡ full → TellsRevision (cond full (refused d Limit) (go p))
  revision_room g go tells p there last full is = search (arith, tells, leb-false)

  revision_last : (g : GeographyModel) (go : Plan → Outcome) → TellsOf g go → (p : Plan) → map_of.get d.plans name ≡ Some p → (same : Bool) → (after == length p.revisions) ≡ same → TellsRevision (cond (not same) (refused d (Stale (length p.revisions))) (cond (nat_le revision_limit (length p.revisions)) (refused d Limit) (go p)))
  revision_last g go tells p there same is = search (arith, revision_room, g, eqb-true)

  revision_there : (g : GeographyModel) (go : Plan → Outcome) → TellsOf g go → (found : Option Plan) → map_of.get d.plans name ≡ found → TellsRevision (on_revisions d found after go)
  revision_there g go tells found is = search (arith, revision_last, g, after)

  whole_told : (g : GeographyModel) → d.geography ≡ Some g → (p : Plan) → map_of.get d.plans name ≡ Some p → after ≡ length p.revisions → length p.revisions < revision_limit → (reading : Result Values Fault) → ((listed : Values) → reading ≡ Ok listed → AreSmall p.n listed) → TellsRevision (whole_read g d name p reading)
  whole_told g geography p there last few reading small = search (arith, g, geography, whole_within, small)

  part_told : (g : GeographyModel) → d.geography ≡ Some g → (p : Plan) → map_of.get d.plans name ≡ Some p → after ≡ length p.revisions → length p.revisions < revision_limit → (listed : Values) → AreSmall p.n listed → (part : Option ℕ) → TellsRevision (county_patched g d name p listed part)
  part_told g geography p there last few listed small (Some county) = λ told. absurd (cc)
  part_told g geography p there last few listed small None = λ told. record {
    g = g;
    plan = p;
    districts = patched g listed (revision_at p (length p.revisions));
    geography = geography;
    there = there;
    count = last;
    few = few;
    within = λ limits. patched_within g p.n listed (revision_at p (length p.revisions)) small (λ districts is. revision_within p (length p.revisions) districts is (limits.sizes name p there).within);
    desk = refl;
  }

  patch_told : (g : GeographyModel) → d.geography ≡ Some g → (p : Plan) → map_of.get d.plans name ≡ Some p → after ≡ length p.revisions → length p.revisions < revision_limit → (reading : Result Values Fault) → ((listed : Values) → reading ≡ Ok listed → AreSmall p.n listed) → TellsRevision (patch_read g d name p reading)
  patch_told g geography p there last few reading small = search (arith, part_told, g, geography, small)

  whole_geography : (body : List ℕ) (geo : Option GeographyModel) → d.geography ≡ geo → TellsRevision (step_at geo d (Whole name after body))
  whole_geography body geo is = search (arith, revision_there, whole_told, body_small, map_of.get)

  counties_geography : (body : List ℕ) (geo : Option GeographyModel) → d.geography ≡ geo → TellsRevision (step_at geo d (Counties name after body))
  counties_geography body geo is = search (arith, revision_there, patch_told, body_small, map_of.get)

  pub whole_revised : (body : List ℕ) → TellsRevision (step d (Whole name after body))
  whole_revised body = whole_geography body d.geography refl

  pub counties_revised : (body : List ℕ) → TellsRevision (step d (Counties name after body))
  counties_revised body = counties_geography body d.geography refl

-- ---- the revision that it got
at_more : (q : Plan) (n : ℕ) → revision_at q (suc n) ≡ slice_get q.revisions n
at_more q n = ap (λ b. cond b None (slice_get q.revisions (suc n - 1))) (no_zero n) ∙ ap (λ k. slice_get q.revisions k) (omega arith)

at_next : (p : Plan) (districts : List ℕ) (k : ℕ) → k ≡ suc (length p.revisions) → revision_at (with_revision p districts) k ≡ Some districts
at_next p districts k is = ap (λ n. revision_at (with_revision p districts) n) is ∙ at_more (with_revision p districts) (length p.revisions) ∙ end_of p.revisions districts

pub last_of_next : (p : Plan) (districts : List ℕ) → last_revision (with_revision p districts) ≡ Some districts
last_of_next p districts = at_next p districts (length (p.revisions ++ districts ∷ [])) (let long = length-append p.revisions (districts ∷ []) in omega arith)

module _ (d : Desk) (name : List ℕ) (after : ℕ) (e : Desk) (r : IsRevised d name after e) where
  pub plan_then : map_of.get e.plans name ≡ Some (with_revision r.plan r.districts)
  plan_then = ap (λ (x : Desk). map_of.get x.plans name) r.desk ∙ put_there d.plans name (with_revision r.plan r.districts)

  pub next_is : revision_in (map_of.get e.plans name) (after + 1) ≡ Some r.districts
  next_is = ap (λ (q : Option Plan). revision_in q (after + 1)) plan_then ∙ at_next r.plan r.districts (after + 1) (let last = r.count in omega arith)

  pub last_is : revision_in (map_of.get d.plans name) after ≡ last_revision r.plan
  last_is = ap (λ (q : Option Plan). revision_in q after) r.there ∙ ap (λ n. revision_at r.plan n) r.count

  pub rows_added : added_rows d.geography (map_of.get d.plans name) (map_of.get e.plans name) ≡ revision_rows r.g (revision_in (map_of.get d.plans name) after) r.districts
  rows_added = search (rules, plan_then, last_of_next, last_is)

  two_rows : 2 ≤ added_rows d.geography (map_of.get d.plans name) (map_of.get e.plans name)
  two_rows = let rows = rows_added in omega arith

  pub chunks_added : added_by d name e ≡ length (changed r.g (revision_in (map_of.get d.plans name) after) r.districts)
  chunks_added = search (rules, plan_then, last_of_next, last_is)

-- ---- whatever the command
geography_of : (d e f : Desk) → e ≡ f → f.geography ≡ d.geography → e.geography ≡ d.geography
geography_of d e f same is = ap (λ (x : Desk). x.geography) same ∙ is

-- the geography stays
pub geography_stays : (d : Desk) (c : Command) (e : Desk) → IsAfter d c e → e.geography ≡ d.geography
geography_stays d c e is = search (arith, geography_of, created, whole_revised, map_of.insert, counties_revised, forked, taken_away)

-- and it writes two rows at least
pub rows_some : (d : Desk) (c : Command) (e : Desk) → IsAfter d c e → 2 ≤ command_rows d c
rows_some d (Whole name after body) e is = two_rows d name after _ (whole_revised d name after body is.reply)
rows_some d (Counties name after body) e is = two_rows d name after _ (counties_revised d name after body is.reply)
rows_some d _ e is = search (arith, forked, rows_forked)
