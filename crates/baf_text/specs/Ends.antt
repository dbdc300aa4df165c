-- A printed line.
use Rattle.{std.specs.Prelude.ℕ, desk_model.specs.declared.kind.Kind.{Kind, TheVariants.{Congress, Senate, House}}}

-- how many bytes a block's line has, where its district is one that the kind may have
abbrev pub line_length : Kind → ℕ
line_length Congress = 19
line_length Senate = 20
line_length House = 20
