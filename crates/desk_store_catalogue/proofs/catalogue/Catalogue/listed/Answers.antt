use Rattle.std.{specs.Option.option_map, proofs.Common.{ap, ◌∙◌}}
use Rattle.desk_store_catalogue.proofs.catalogue.Catalogue.listed.Goals as goal

pub returns-in-Some : goal.returns-in-Some
returns-in-Some c = rw (c.as_slice.ensures ∙ c.deref.ensures ∙ c.self.inside.lists c.args.geography.now _ (rw (← c.self.view_is) at c.requires) (ap (option_map (λ t. t.value)) c.in-Some.is)) at c.from_slice.ensures.items
