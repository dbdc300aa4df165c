use Rattle.{std.proofs.Common.{◌≡◌, ℕ, List, length, Option, ap, subst, sym, ◌∙◌, rules}, desk_model.specs.{Ranges.{ranges_in, ranges_of}, claim.Room.last_revision}}
use Rattle.{desk_model.specs.{claim.Subject.revision_at, declared.ranges.CountyRange.CountyRange}, desk_store_catalogue.specs.Cutting.{AreComparable, AreWithin}}
use Rattle.desk_store_catalogue.proofs.{Cutting.within_all, Whole.{revised_whole, whole_of}}
use Rattle.desk_store_catalogue.proofs.catalogue.Catalogue.with_revision.Goals as goal

pub with_plans-requires : goal.with_plans-requires
with_plans-requires c = rw (c.in-Ok-replace.ensures, c.in-Ok-with_revision.ensures, ← c.self.view_is) (revised_whole _ c.self.inside.plans c.self.invariant c.args.entry.now.0 c.args.entry.now.1 _
    (rw (← c.self.view_is) at c.requires.found) (rw (← c.self.view_is) at (whole_of c.args.self.now.geography c.args.geography.now c.args.made.districts c.requires.there c.requires.compared.new_long)))

pub changed_counties-requires : goal.changed_counties-requires
changed_counties-requires c =
    let are : c.counties-ranges.result.now ≡ ranges_of c.args.geography.now = c.counties-ranges.ensures ∙ ap ranges_in c.requires.there in
    let within = subst (λ (l : List CountyRange). AreWithin (length c.args.geography.now.blocks) l) (sym are) (c.ranges_are_within.ensures c.args.geography.now) in
    subst (λ (o : Option (List ℕ)). AreComparable (λ n. AreWithin n c.counties-ranges.result.now) o c.args.made.districts c.args.made.span)
    (sym (c.revision-last.ensures ∙ ap (λ n. revision_at c.args.entry.now.1 n) c.count.ensures)) record {
      last_long = within_all (last_revision c.args.entry.now.1) (length c.args.geography.now.blocks) c.counties-ranges.result.now c.requires.compared.last_long within;
      new_long = subst (λ n. AreWithin n c.counties-ranges.result.now) (sym c.requires.compared.new_long) within;
      stays = c.requires.compared.stays;
    }

pub returns : goal.returns
returns c = record { ok = search rules; changes = search rules; err = tt }
