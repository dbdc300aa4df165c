-- Names of plans.
use Rattle.std.specs.{Char.is_ascii_alphanumeric, List.list_all, Prelude.{ℕ, Bool, ◌||◌, ◌&&◌, List, length, ◌==◌, nat_le, if◌then◌else◌, Option, Some, None, IsTrue}}

-- a letter, a digit, a dot, an underscore or a dash
abbrev pub is_name_byte : ℕ → Bool
is_name_byte b = is_ascii_alphanumeric b || (b == 46) || (b == 95) || (b == 45)

-- 1 to 64 bytes of a name
abbrev pub is_plan_name : List ℕ → Bool
is_plan_name bytes = nat_le 1 (length bytes) && nat_le (length bytes) 64 && list_all is_name_byte bytes

abbrev pub IsPlanName : List ℕ → Type 0
IsPlanName bytes = IsTrue (is_plan_name bytes)

-- the name that bytes spell
abbrev pub plan_name_of : List ℕ → Option (List ℕ)
plan_name_of bytes = if is_plan_name bytes then Some bytes else None
