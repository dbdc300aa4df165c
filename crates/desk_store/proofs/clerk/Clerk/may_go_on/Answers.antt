use Rattle.{std.{specs.{Option.option_copied, Prelude.{Option, None, is_some}}, proofs.Common.{◌≡◌, true, Bor, Some, sym, ap, ◌∙◌}}, desk_model.specs.claim.Desk.Desk}
use Rattle.desk_model.specs.claim.Geography.{GeographyModel}
use Rattle.desk_store.proofs.clerk.Clerk.may_go_on.Goals as goal

there_is : (o : Option (Bor GeographyModel)) (area : Option GeographyModel) → option_copied o ≡ area → is_some o ≡ true → (x : GeographyModel) × (area ≡ Some x)
there_is None area is some = absurd (cc)
there_is (Some b) area is some = (b.now, sym is)

pub returns-then-is_some-clause-err : goal.returns-then-is_some-clause-err
returns-then-is_some-clause-err g c =
    there_is c.geography.result c.args.self.now.catalogue.value.geography (c.geography.ensures ∙ ap (λ (d : Desk). d.geography) c.deref.ensures) (sym c.is_some.ensures ∙ c.if-is_some.true)
