-- What the step of an accepted command did.
use Rattle.{std.{specs.{Prelude.nat_le, Str.Lines.lines}, proofs.lemmas.{Bool.Decides.nat_tests, List.length-map}}, baf_text.specs.Body.{ReadIsListed, value_of, rows}}
use Rattle.std.proofs.Common.{◌≡◌, ℕ, ◌+◌, Bool, true, false, cond, not, eqb, List, length, Option, Some, None, Result, Ok, Err, refl, sym, ap, ◌∙◌, arith, rules}
use Rattle.desk_model.specs.claim.{Baf.{Values, Fault, body_read, fields_of}, Desk.{Desk, Plan}, Geography.GeographyModel, Outcome.IsAcceptance, Subject.revision_at}
use Rattle.desk_model.specs.claim.Step.{Outcome, refused, plan_limit, on_revisions, whole_read, patch_read, county_patched, partly_listed, create, retired, fork, fork_from, fork_of, step_at}
use Rattle.desk_model.specs.declared.{command.Command.{Command, TheVariants.{Create, Whole, Counties, Retire, Fork}}, kind.Kind.Kind, reply.Refusal.TheVariants.Limit}
use Rattle.{field_text.specs.claim.Fields.fields, http_desk_streams.specs.{Accepting.{done_by, rows_in}, Laws.{IsRevised, IsDone, AcceptanceIsTold}}}
use Rattle.std.specs.FinMap as map_of
use Rattle.desk_model.specs.declared.reply.Reply.TheVariants as reply

-- where the one outcome is a refusal and the test's is none, it is the other
other : (b : Bool) (x y : Outcome) → ¬ IsAcceptance x.0 → IsAcceptance (cond b x y).0 → (b ≡ false) × IsAcceptance y.0 × ((cond b x y).0 ≡ y.0)
other true x y bad ok = absurd (bad ok)
other false x y bad ok = (refl, ok, refl)

same_after : (a n : ℕ) → not (eqb a n) ≡ false → a ≡ n
same_after a n is = grind (arith, nat_tests, is)

-- the plan is there, and its revisions are as many as the command says
record IsAfter (d : Desk) (q : Option Plan) (after : ℕ) (go : Plan → Outcome) : Type 0 where
  pub plan : Plan
  pub there : q ≡ Some plan
  pub count : after ≡ length plan.revisions
  pub ok : IsAcceptance (go plan).0
  pub is : (on_revisions d q after go).0 ≡ (go plan).0

after_is : (d : Desk) (q : Option Plan) (after : ℕ) (go : Plan → Outcome) → IsAcceptance (on_revisions d q after go).0 → IsAfter d q after go
after_is d None after go ok = absurd ok
after_is d (Some p) after go ok = search (rules, other, same_after)

-- the body was read
record IsRead (reading : Result Values Fault) (outcome : Outcome) (name : List ℕ) (p : Plan) : Type 0 where
  pub values : Values
  pub read : reading ≡ Ok values
  pub told : outcome.0 ≡ reply.Created name (length p.revisions + 1)

whole_is : (g : GeographyModel) (d : Desk) (name : List ℕ) (p : Plan) (reading : Result Values Fault) → IsAcceptance (whole_read g d name p reading).0
    → IsRead reading (whole_read g d name p reading) name p
whole_is g d name p (Err f) ok = absurd ok
whole_is g d name p (Ok listed) ok = record { values = listed; read = refl; told = refl }

patch_is : (g : GeographyModel) (d : Desk) (name : List ℕ) (p : Plan) (reading : Result Values Fault) → IsAcceptance (patch_read g d name p reading).0
    → IsRead reading (patch_read g d name p reading) name p
patch_is g d name p (Err f) ok = absurd ok
patch_is g d name p (Ok listed) ok =
    (elim (partly_listed g listed) as (λ part. IsAcceptance (county_patched g d name p listed part).0 → IsRead (Ok listed) (county_patched g d name p listed part) name p) [
      | Some county ↦ λ bad. absurd bad
      | None ↦ λ fine. record { values = listed; read = refl; told = refl }
    ]) ok

-- a body that is read lists a block in each line with bytes after the first
count_is : ReadIsListed → (g : GeographyModel) (n : ℕ) (body : List ℕ) (values : Values) → body_read g n body ≡ Ok values → rows_in body ≡ length values
count_is listed g n body values read =
    let is = (listed g n body values).0 read in
    sym (length-map (rows (lines body)) (λ (line : List ℕ). value_of n (fields_of (fields line))))
    ∙ (ap (λ (l : List (Option (ℕ × ℕ))). length l) is.rows ∙ length-map values (λ (e : ℕ × ℕ). Some e))

module _ (listed : ReadIsListed) (g : GeographyModel) (d : Desk) (is : d.geography ≡ Some g) where
  revised_is : (name body : List ℕ) (after : ℕ) (go : Plan → Outcome) (at : IsAfter d (map_of.get d.plans name) after go)
      → IsRead (body_read g at.plan.n body) (go at.plan) name at.plan → IsRevised d name body (after + 1) (rows_in body) (on_revisions d (map_of.get d.plans name) after go).0
  revised_is name body after go at reads = search (rules, count_is)

created_is : (d : Desk) (name : List ℕ) (kind : Kind) (n : ℕ) (q : Option Plan) → IsAcceptance (create d name kind n q).0 → (create d name kind n q).0 ≡ reply.Created name 0
created_is d name kind n (Some p) ok = absurd ok
created_is d name kind n None ok = (other (nat_le plan_limit (map_of.len d.plans)) (refused d Limit) _ (λ bad. bad) ok).2

retired_is : (d : Desk) (name : List ℕ) (q : Option Plan) → IsAcceptance (retired d name q).0 → (retired d name q).0 ≡ reply.Retired name
retired_is d name None ok = absurd ok
retired_is d name (Some p) ok = refl

fork_from_is : (d : Desk) (name : List ℕ) (q : Option Plan) (j : ℕ) → IsAcceptance (fork_from d name q j).0 → (fork_from d name q j).0 ≡ reply.Created name 1
fork_from_is d name None j ok = absurd ok
fork_from_is d name (Some q) j ok = (elim (revision_at q j) as (λ k. IsAcceptance (fork_of d name q k).0 → (fork_of d name q k).0 ≡ reply.Created name 1) [
  | None ↦ λ bad. absurd bad
  | Some districts ↦ λ fine. refl
]) ok

forked_is : (d : Desk) (name : List ℕ) (from : List ℕ × ℕ) (q : Option Plan) → IsAcceptance (fork d name from q).0 → (fork d name from q).0 ≡ reply.Created name 1
forked_is d name from (Some p) ok = absurd ok
forked_is d name from None ok = search (rules, other, fork_from_is)

done_at : ReadIsListed → (area : Option GeographyModel) (d : Desk) (c : Command) → d.geography ≡ area → IsAcceptance (step_at area d c).0 → IsDone d c (done_by c) (step_at area d c).0
done_at listed None d c is ok = absurd ok
done_at listed (Some g) d (Create name size) is ok = (refl, created_is d name size.0 size.1 (map_of.get d.plans name) ok)
done_at listed (Some g) d (Whole name after body) is ok =
    let at = after_is d (map_of.get d.plans name) after (λ p. whole_read g d name p (body_read g p.n body)) ok in
    (refl, revised_is listed g d is name body after (λ p. whole_read g d name p (body_read g p.n body)) at (whole_is g d name at.plan (body_read g at.plan.n body) at.ok))
done_at listed (Some g) d (Counties name after body) is ok =
    let at = after_is d (map_of.get d.plans name) after (λ p. patch_read g d name p (body_read g p.n body)) ok in
    (refl, revised_is listed g d is name body after (λ p. patch_read g d name p (body_read g p.n body)) at (patch_is g d name at.plan (body_read g at.plan.n body) at.ok))
done_at listed (Some g) d (Retire name) is ok = (refl, retired_is d name (map_of.get d.plans name) ok)
done_at listed (Some g) d (Fork name from) is ok = (refl, refl, forked_is d name from (map_of.get d.plans name) ok)

pub told_is : ReadIsListed → AcceptanceIsTold
told_is listed d c ok = done_at listed d.geography d c refl ok
