-- The forms of a request target (RFC 9112, section 3.2).
use Rattle.std.specs.{Char.to_ascii_lowercase, List.list_all, Str.bytes_eq}
use Rattle.std.specs.Prelude.{ℕ, Bool, false, ◌||◌, ◌==◌, if◌then◌else◌, nat_lt, List, [], ◌∷◌, map, take, drop, Option, Some, None, option_map, codes}

-- the same word, whatever the case (RFC 9110, section 5.1)
abbrev pub is_word : List ℕ → List ℕ → Bool
is_word word name = bytes_eq (map to_ascii_lowercase name) (map to_ascii_lowercase word)

abbrev pub is_ascii : List ℕ → Bool
is_ascii bytes = list_all (λ c. nat_lt c 128) bytes

abbrev pub begins_with_slash : List ℕ → Bool
begins_with_slash [] = false
begins_with_slash (b ∷ bytes) = b == 47

-- an authority ends at the first slash or question mark, or at the end
abbrev pub ends_authority : ℕ → Bool
ends_authority b = b == 47 || b == 63

abbrev pub after_authority : List ℕ → List ℕ
after_authority [] = []
after_authority (b ∷ bytes) = if ends_authority b then b ∷ bytes else after_authority bytes

-- an empty path is a slash (RFC 9110, section 4.2.3)
abbrev pub with_path : List ℕ → List ℕ
with_path bytes = if begins_with_slash bytes then bytes else 47 ∷ bytes

-- what follows `http://`, in any case
abbrev pub after_scheme : List ℕ → Option (List ℕ)
after_scheme target = if is_word (codes "http://") (take 7 target) then Some (drop 7 target) else None

-- origin-form, or absolute-form without its scheme and its authority
abbrev pub without_authority : List ℕ → Option (List ℕ)
without_authority target =
    if begins_with_slash target then Some target
    else option_map (λ rest. with_path (after_authority rest)) (after_scheme target)

-- the path and the query that a target asks for, in ASCII
abbrev pub target_of : List ℕ → Option (List ℕ)
target_of target = if is_ascii target then without_authority target else None
