-- How worlds are told apart.
use Rattle.{std.specs.{Coded.{Coded, code_by, coded×, coded_ℕ, coded_list}, Prelude.{ℕ, List, refl}}, desk_model.specs.{claim.Desk.Desk, declared.command.Command.Command}}
use Rattle.{desk_store_catalogue.specs.Codes.coded_desk, desk_theorem.specs.claim.World.World}
use Rattle.desk_model.specs.contracts.command.Command as command

abbrev pub coded_world : Coded (Desk × World)
coded_world = coded× coded_desk (code_by (List Command × (ℕ × (ℕ × List ℕ)))
    (coded× (coded_list command.the_row.coded) (coded× coded_ℕ (coded× coded_ℕ (coded_list coded_ℕ))))
    (λ w. (w.changes, (w.acknowledged, (w.shown, w.views)))) (λ c. record {
      changes = c.0;
      acknowledged = c.1.0;
      shown = c.1.1.0;
      views = c.1.1.1;
    }) (λ _. refl))
