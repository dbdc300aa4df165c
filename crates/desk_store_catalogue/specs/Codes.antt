-- How desks are told apart.
use Rattle.{std.specs.{Coded.{Coded, code_by, coded×, coded_option}, Prelude.{Option, refl}}, desk_model.specs.claim.{Desk.{Plan, Desk, name_cmp}, Geography.GeographyModel}}
use Rattle.desk_store_plans.specs.Codes.{coded_plans}
use Rattle.std.specs.FinMap as map_of
use Rattle.desk_model.specs.contracts.geography.Geography as geography

abbrev pub coded_desk : Coded Desk
coded_desk = code_by (Option GeographyModel × map_of.FinMap name_cmp Plan) (coded× (coded_option geography.the_row.coded) coded_plans)
    (λ d. (d.geography, d.plans)) (λ c. record { geography = c.0; plans = c.1 }) (λ _. refl)
