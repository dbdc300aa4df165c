use Rattle.{std.{specs.Option.option_copied, proofs.Common.{List, length, sym, subst, rules}}, desk_model.specs.declared.ranges.CountyRange.CountyRange}
use Rattle.desk_store_catalogue.{specs.Cutting.AreWithin, proofs.{Cutting.within_all, Drafted.all_stay}}
use Rattle.plan_revisions.proofs.named_adds.add_whole.Goals as goal

pub changed_counties-requires : goal.changed_counties-requires
changed_counties-requires g c =
    let n = length c.args.geography.now.blocks in
    let within = subst (λ (l : List CountyRange). AreWithin n l) (sym c.counties-ranges.ensures) (c.ranges_are_within.ensures c.args.geography.now) in
    record {
      last_long = within_all (option_copied c.args.last) n c.counties-ranges.result.now c.requires.last within;
      new_long = subst (λ k. AreWithin k c.counties-ranges.result.now) (sym c.requires.next) within;
      stays = all_stay (option_copied c.args.last) c.args.next.now _ n c.requires.last c.requires.next (search rules);
    }
