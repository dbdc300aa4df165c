use Rattle.{std.proofs.Common.rules, page_store.specs.claim.Transactions.{stored, disk_in, count_of, journal_of}}
use Rattle.desk_store_pages.proofs.Committed.{stops_between, pages_sound, held_then}
use Rattle.desk_store_pages.proofs.commits.commit.Goals as goal

pub returns : goal.returns
returns g c = record {
  commits = search rules;
  any_moment = λ honest working sectors m next whole holds then.
      stops_between sectors (journal_of c.args.pages.now) (count_of c.args.pages.now) (stored c.args.pages.now) c.args.prepared m next (disk_in c.args.pages.now) (disk_in c.commit.new.pages) whole c.requires (pages_sound c.args.pages.now working (c.commit.ensures.commits.honest honest) holds.free_are) holds then (c.commit.ensures.any_moment honest working);
  held = λ honest. held_then c.args.prepared c.args.pages.now c.commit.new.pages c.commit.result c.requires c.commit.ensures.commits.shape (c.commit.ensures.after honest);
  after = search rules;
  ok = search rules;
  still = search rules;
  err = search rules;
}
