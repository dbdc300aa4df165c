-- Numbers in ASCII digits.
use Rattle.std.specs.{Char.is_ascii_digit, List.list_all, Prelude.{ℕ, ◌&&◌, if◌then◌else◌, ◌==◌, nat_le, List, length, Option, Some, None}, Str.Parse.digits_value}

-- the number that 1 to `most` digits write
abbrev pub number_of : ℕ → List ℕ → Option ℕ
number_of most bytes =
    if nat_le 1 (length bytes) && nat_le (length bytes) most && list_all is_ascii_digit bytes then Some (digits_value 10 bytes)
    else None

-- the number that exactly this many digits write
abbrev pub number_of_digits : ℕ → List ℕ → Option ℕ
number_of_digits count bytes = if (length bytes == count) && list_all is_ascii_digit bytes then Some (digits_value 10 bytes) else None
