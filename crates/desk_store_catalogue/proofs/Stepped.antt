-- What the desk's step makes of a post to a plan that may have one more revision.
use Rattle.std.{specs.Prelude.{◌==◌, nat_le, IsOkAnd}, proofs.Common.{rules, ◌≡◌, ℕ, true, false, List, Option, Some, Result, Ok, Err, ◌<◌, refl, ap, sym, ◌∙◌, arith}}
use Rattle.{std.proofs.lemmas.Bool.Decides.nat_tests, desk_model.specs.claim.{Baf.{Values, Fault, body_read, whole}, Desk.{Plan, Desk}, Geography.GeographyModel, Outcome.IsStep}}
use Rattle.desk_model.specs.claim.Step.{Outcome, refused, revised, on_revisions, whole_read, patch_read, county_patched, partly_listed, step, step_at, revision_limit}
use Rattle.desk_model.specs.declared.{command.Command.{Command, TheVariants.{Counties, Whole}}, reply.Refusal.{Refusal, TheVariants.{BadBody, NotWholeCounty, Memory}}}
use Rattle.desk_store_catalogue.specs.{Accepting.{IsRevisable, StepRefuses}, Kept.IsRefusalOf, Patches.{with_revision_of, IsPatchRefusal}, claim.Accepting.IsAfter}
use Rattle.desk_store_plans.specs.Rows.{Row}
use Rattle.std.specs.FinMap as map_of
use Rattle.desk_model.specs.declared.reply.Reply.TheVariants as reply

same_count : (a b : ℕ) → a ≡ b → (a == b) ≡ true
same_count a b is = grind (arith, nat_tests)

below_limit : (n : ℕ) → n < revision_limit → nat_le revision_limit n ≡ false
below_limit n less = grind (arith, nat_tests)

module _ (d : Desk) (g : GeographyModel) (name : List ℕ) (after : ℕ) (body : List ℕ) (row : Row) (there : d.geography ≡ Some g) (may : IsRevisable d name after row) where
  goes : (go : Plan → Outcome) → on_revisions d (map_of.get d.plans name) after go ≡ go row.1
  goes go = search (rules, same_count, below_limit)

  step_reads : step d (Whole name after body) ≡ whole_read g d name row.1 (body_read g row.1.n body)
  step_reads = ap (λ (o : Option GeographyModel). step_at o d (Whole name after body)) there ∙ goes (λ p. whole_read g d name p (body_read g p.n body))

  reads : (districts : List ℕ) (reading : Result Values Fault) → IsOkAnd reading (λ values. districts ≡ whole g values) → whole_read g d name row.1 reading ≡ revised d name row.1 districts
  reads districts (Err f) is = absurd is
  reads districts (Ok values) is = ap (revised d name row.1) (sym is)

  pub whole_after : (districts : List ℕ) → IsOkAnd (body_read g row.1.n body) (λ values. districts ≡ whole g values) → IsAfter d (Whole name after body) (with_revision_of d row districts)
  whole_after districts said = search (rules, step_reads, reads)

  refuses : (c : Command) (refusal : Refusal) → step d c ≡ refused d refusal → IsStep ⊥ d c (reply.Refused refusal) d
  refuses c refusal is = search rules

  pub whole_refused : (refusal : Refusal) → IsRefusalOf (body_read g row.1.n body) refusal → StepRefuses d (Whole name after body) refusal
  whole_refused (BadBody code line) is = (λ no. no, refuses (Whole name after body) (BadBody code line) (step_reads ∙ ap (whole_read g d name row.1) is))
  whole_refused Memory is = (λ no. no, refl)
  whole_refused _ is = absurd is

  step_patches : step d (Counties name after body) ≡ patch_read g d name row.1 (body_read g row.1.n body)
  step_patches = ap (λ (o : Option GeographyModel). step_at o d (Counties name after body)) there ∙ goes (λ p. patch_read g d name p (body_read g p.n body))

  in_part : (reading : Result Values Fault) (county : ℕ) → IsOkAnd reading (λ values. partly_listed g values ≡ Some county) → patch_read g d name row.1 reading ≡ refused d (NotWholeCounty county)
  in_part (Err f) county is = absurd is
  in_part (Ok values) county is = ap (county_patched g d name row.1 values) is

  pub counties_refused : (refusal : Refusal) → IsPatchRefusal g (body_read g row.1.n body) refusal → StepRefuses d (Counties name after body) refusal
  counties_refused (BadBody code line) is = (λ no. no, refuses (Counties name after body) (BadBody code line) (step_patches ∙ ap (patch_read g d name row.1) is))
  counties_refused Memory is = (λ no. no, refl)
  counties_refused _ is = search (refuses, step_patches, in_part)
