-- What no promise rests on, beside claim/Target.antt.
use Rattle.std.specs.Prelude.{ℕ, Bool, if◌then◌else◌, List, ◌∷◌}

-- with a slash before it, or as it is
abbrev pub with_slash : Bool → List ℕ → List ℕ
with_slash lacks bytes = if lacks then 47 ∷ bytes else bytes
