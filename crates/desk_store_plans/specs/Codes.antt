-- How plans are told apart.
use Rattle.{std.specs.{Coded.{Coded, code_by, coded×, coded_ℕ, coded_list}, Prelude.{ℕ, List, refl}}, desk_model.specs.{claim.Desk.{Plan, name_cmp}, declared.kind.Kind.Kind}}
use Rattle.std.specs.FinMap as map_of
use Rattle.desk_model.specs.contracts.kind.Kind as kind

abbrev pub coded_plan : Coded Plan
coded_plan = code_by (Kind × (ℕ × List (List ℕ))) (coded× kind.the_row.coded (coded× coded_ℕ (coded_list (coded_list coded_ℕ))))
    (λ p. (p.kind, (p.n, p.revisions))) (λ c. record { kind = c.0; n = c.1.0; revisions = c.1.1 }) (λ _. refl)

abbrev pub coded_plans : Coded (map_of.FinMap name_cmp Plan)
coded_plans = map_of.code (coded_list coded_ℕ) coded_plan
