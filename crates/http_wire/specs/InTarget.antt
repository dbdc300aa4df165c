-- A text that ends inside a request target, as a test.
use Rattle.std.specs.{List.list_all, Prelude.{ℕ, Bool, true, false, List, [], ◌∷◌, ◌&&◌, ◌==◌, if◌then◌else◌}}
use Rattle.httparse.specs.Grammar.{is_token_byte, is_uri_byte}

-- the rest of a method, a space, and bytes of a target; some says that the method has begun
abbrev pub in_method : Bool → List ℕ → Bool
in_method some [] = false
in_method some (b ∷ bytes) = if is_token_byte b then in_method true bytes else (some && b == 32 && list_all is_uri_byte bytes)

-- the same after empty lines; cr says that a CR stands before
abbrev pub in_blank : Bool → List ℕ → Bool
in_blank cr [] = false
in_blank cr (b ∷ bytes) =
    if b == 10 then in_blank false bytes
    else if cr then false
    else if b == 13 then in_blank true bytes
    else in_method false (b ∷ bytes)
