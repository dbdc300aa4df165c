use Rattle.{std.proofs.Common.{refl, rules}, desk_migration.proofs.Moved.{ended_so, goes_on, stays_of, told_of}}
use Rattle.desk_migration.proofs.migration.Migration.finish.Goals as goal

pub returns : goal.returns
returns g c =
    let told = c.put_version.ensures in
    let goes = goes_on c.args.self.now _ told.steps in
    record {
      ends = ended_so c.args.self.now _ c.requires.ended goes told.any_moment;
      told = told_of c.put_version.result c.args.self.now _ c.requires.ended goes told.steps.ok told.told;
      stays = stays_of c.put_version.result c.args.self.now _ c.requires.ended goes told.err refl refl;
      room = search rules;
      working = search rules;
      still = search rules;
      err = search rules;
    }
