use Rattle.{std.{specs.Str.IsAscii, proofs.Common.{sym, subst}}, http_desk_routes.{specs.Routes.AreUtf8, proofs.Parts.are_texts}}
use Rattle.http_desk_routes.proofs.route.place_at.Goals as goal

pub parts_of-requires : goal.parts_of-requires
parts_of-requires c = subst AreUtf8 (sym c.iter.ensures.value) (are_texts _ _ _ _ _ _ (subst IsAscii (sym c.in-Ok.ensures.path) c.requires.ascii))
