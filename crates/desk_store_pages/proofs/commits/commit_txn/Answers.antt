use Rattle.{std.{specs.Prelude.◌⊎◌, proofs.Common.{inl, rules}}, desk_store_pages.specs.claim.Desks.{OpensDesk, OpensAs}, page_store.specs.claim.Transactions.{stored, disk_in}}
use Rattle.{desk_store_pages.proofs.{Kept.{opens_now, rows_after}, Openings.leaves_desk}, page_store.proofs.Stops.leaves_here}
use Rattle.desk_store_pages.proofs.commits.commit_txn.Goals as goal

pub returns-in_err-prepared : goal.returns-in_err-prepared
returns-in_err-prepared g c = record {
  commits = search rules;
  any_moment = λ honest working sectors d next whole holds then.
      leaves_here (λ x. OpensDesk sectors d x ⊎ OpensDesk sectors next x) (disk_in c.args.pages.now) (λ x left. inl (opens_now c.args.pages.now working honest sectors d whole holds x left));
  any_version = λ honest working sectors x next whole holds then.
      leaves_here (λ i. OpensAs sectors x i ⊎ OpensAs sectors next i) (disk_in c.args.pages.now) (λ i left. inl (opens_now c.args.pages.now working honest sectors x.1 whole holds i left));
  held = search rules;
  ok = search rules;
  still = search rules;
  err = search rules;
}

pub returns : goal.returns
returns g c = record {
  commits = search rules;
  any_moment = λ honest working sectors d next whole holds then.
      leaves_desk sectors holds.m then.m d next (disk_in c.args.pages.now) (disk_in c.commit.new.pages) holds.is then.is
      (c.commit.ensures.any_moment honest working sectors holds.m then.m whole holds.holds (c.in_ok-prepared.ensures.held (stored c.args.pages.now) then.m then.holds));
  any_version = λ honest working sectors x next whole holds then.
      leaves_desk sectors holds.m then.m x.1 next.1 (disk_in c.args.pages.now) (disk_in c.commit.new.pages) holds.is then.is
      (c.commit.ensures.any_moment honest working sectors holds.m then.m whole holds.holds (c.in_ok-prepared.ensures.held (stored c.args.pages.now) then.m then.holds));
  held = λ honest. rows_after c.args.txn c.in_ok-prepared.prepared c.args.pages.now c.commit.new.pages c.commit.result c.in_ok-prepared.ensures.held (c.commit.ensures.held honest);
  ok = search rules;
  still = search rules;
  err = search rules;
}
