-- The words of the kinds of plans, and how many districts each may have.
use Rattle.{std.specs.Prelude.{ℕ, List, codes}, desk_model.specs.declared.kind.Kind.{Kind, TheVariants.{Congress, Senate, House}}}

abbrev pub kind_name : Kind → List ℕ
kind_name Congress = codes "congress"
kind_name Senate = codes "senate"
kind_name House = codes "house"
