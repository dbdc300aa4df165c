use Rattle.{std.{specs.List.{flat_map, zip}, proofs.Common.{◌≡◌, ◌++◌, take}}, desk_model.specs.claim.{Geography.ids_of, Printed.row_text}}
use Rattle.baf_text.proofs.writing.push_rows.Given as goal

abbrev pub invariant-loop-place : goal.invariant-loop-place
invariant-loop-place g l = (l.text.items ≡ l.fn.text.items ++ flat_map (row_text l.fn.line.0) (take l.place (zip (ids_of l.blocks) l.assignment))) × (l.line.0 ≡ l.fn.line.0)
