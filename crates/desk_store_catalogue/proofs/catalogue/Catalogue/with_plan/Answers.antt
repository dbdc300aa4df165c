use Rattle.{std.proofs.{Common.{◌≡◌, ℕ, List, length}, lemmas.List.Elements.All-nil}, desk_store_catalogue.proofs.Whole.inserted_whole}
use Rattle.desk_store_catalogue.proofs.catalogue.Catalogue.with_plan.Goals as goal

pub with_plans-requires : goal.with_plans-requires
with_plans-requires c = rw (c.in-Ok.ensures, c.new.ensures, ← c.self.view_is) (inserted_whole _ c.self.inside.plans c.self.invariant _ _ (λ g geo. All-nil (λ (d : List ℕ). length d ≡ length g.blocks)))
