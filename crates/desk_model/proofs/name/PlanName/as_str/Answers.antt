use Rattle.std.{specs.{List.list_all, Str.IsAscii}, proofs.{Common.{rules, ◌&&◌, nat_le, ℕ, List, length, arith}, lemmas.Bool.{and_parts, Decides.nat_tests}}}
use Rattle.{std.proofs.lemmas.{List.Sums.AllPass-from_list_all, Str.{IsUtf8-from_ascii, Ascii.IsAscii-from_all}}, desk_model.specs.claim.Name.{is_name_byte, IsPlanName}}
use Rattle.desk_model.proofs.name.PlanName.as_str.Goals as goal

name_is_ascii : (bytes : List ℕ) → IsPlanName bytes → IsAscii bytes
name_is_ascii bytes is = IsAscii-from_all bytes (λ k d within.
    let named = AllPass-from_list_all is_name_byte bytes (and_parts (nat_le 1 (length bytes) && nat_le (length bytes) 64) (list_all is_name_byte bytes) is).1 k d within in
    grind (arith, nat_tests))

pub unreachable-requires : goal.unreachable-requires
unreachable-requires c = search (rules, IsUtf8-from_ascii, name_is_ascii)
