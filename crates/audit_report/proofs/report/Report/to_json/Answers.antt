use Rattle.{std.specs.{Prelude.String, declared.alloc.{AllocError.AllocError, Global.Global}}, audit_contiguity.specs.declared.breaks.{Break.Break, Gap.Gap}}
use Rattle.{std.proofs.Common.{◌≡◌, false, ℕ, List, [], ◌∷◌, Option, Some, None, Result, Ok, Err, IfOk, refl, ap, ◌∙◌, string_bytes}, audit_report.specs.claim.Figures.Figures}
use Rattle.{audit_population.specs.declared.deviations.Extremes.Extremes, serde_json.specs.{Data.Data, Written.{has_float, compact_text}}}
use Rattle.audit_report.specs.claim.ReportText.{clause_data, code_data, number_data, list_data, gap_data, break_data, divided_data, range_data, report_data, report_text}
use Rattle.audit_report.proofs.report.Report.to_json.Goals as goal

-- A report has no float.
list_has_no_float : {X : Type 0} (f : X → Data) → ((x : X) → has_float (f x) ≡ false) → (xs : List X) → has_float (list_data f xs) ≡ false
list_has_no_float f none [] = refl
list_has_no_float f none (x ∷ xs) = rw (none x, list_has_no_float f none xs) refl

gap_has_no_float : (district : ℕ) (gap : Option Gap) → has_float (gap_data district gap) ≡ false
gap_has_no_float district None = refl
gap_has_no_float district (Some gap) = refl

divided_has_no_float : (divided : Option (List ℕ)) → has_float (divided_data divided) ≡ false
divided_has_no_float None = refl
divided_has_no_float (Some districts) = list_has_no_float number_data (λ d. refl) districts

range_has_no_float : (range : Option Extremes) → has_float (range_data range) ≡ false
range_has_no_float None = refl
range_has_no_float (Some e) = refl

report_has_no_float : (r : Figures) → has_float (report_data r) ≡ false
report_has_no_float r =
    rw (
      list_has_no_float clause_data (λ c. refl) r.broken,
      list_has_no_float (code_data 5) (λ c. refl) r.cities,
      list_has_no_float (code_data 5) (λ c. refl) r.cities_in_county,
      list_has_no_float number_data (λ c. refl) r.congress,
      list_has_no_float break_data (λ (b : Break). gap_has_no_float b.district b.gap) r.contiguity,
      list_has_no_float (code_data 3) (λ c. refl) r.counties,
      divided_has_no_float r.divided_by_congress,
      list_has_no_float number_data (λ c. refl) r.nesting,
      list_has_no_float clause_data (λ c. refl) r.not_asked,
      list_has_no_float number_data (λ c. refl) r.populations,
      range_has_no_float r.range,
    ) refl

text_is : (d : Data) (report : Figures) (r : Result (String Global) AllocError) → d ≡ report_data report → IfOk r (λ s. has_float d ≡ false → string_bytes s ≡ compact_text d)
    → IfOk r (λ s. string_bytes s ≡ report_text report)
text_is d report (Ok s) same text = text (ap has_float same ∙ report_has_no_float report) ∙ ap compact_text same
text_is d report (Err e) same text = tt

pub returns : goal.returns
returns c = text_is _ c.args.self.now c.to_string.result c.in_ok-value.ensures c.to_string.ensures.text
