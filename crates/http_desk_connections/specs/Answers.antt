-- Whether a text that is sent answers a request, by how it begins (RFC 9110, section 15.2).
use Rattle.std.specs.{List.starts_with, Prelude.{ℕ, nat_eq, List, [], ◌∷◌, codes, Bool, false, not}}

-- an interim answer, which is sent alone, is none
abbrev pub is_answer : List ℕ → Bool
is_answer [] = false
is_answer (b ∷ bs) = not (starts_with nat_eq (b ∷ bs) (codes "HTTP/1.1 1"))
