-- How what a clerk made is told apart.
use Rattle.{std.specs.{Coded.{Coded, code_by, coded×}, Prelude.refl}, desk_model.specs.{claim.Desk.Desk, declared.command.Command.Command}, desk_store.specs.Changes.Made}
use Rattle.desk_store_catalogue.specs.Codes.{coded_desk}
use Rattle.desk_model.specs.contracts.command.Command as command

abbrev pub coded_made : Coded Made
coded_made = code_by (Command × Desk) (coded× command.the_row.coded coded_desk)
    (λ m. (m.command, m.after)) (λ c. record { command = c.0; after = c.1 }) (λ _. refl)
