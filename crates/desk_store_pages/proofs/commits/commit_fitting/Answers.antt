use Rattle.{std.{specs.Prelude.◌⊎◌, proofs.Common.{inl, rules}}, desk_store_pages.specs.claim.Desks.{OpensDesk, OpensAs}, page_store.specs.claim.Transactions.{stored, disk_in}}
use Rattle.{desk_store_pages.proofs.{Committed.commit_refused, Kept.opens_now, Openings.leaves_desk, Outcomes.err_of}, page_store.proofs.Stops.leaves_here}
use Rattle.desk_store_pages.proofs.commits.commit_fitting.Goals as goal

pub returns-in_err-prepared : goal.returns-in_err-prepared
returns-in_err-prepared g c = record {
  commits = search rules;
  any_moment = λ honest sectors d next whole holds then.
      leaves_here (λ x. OpensDesk sectors d x ⊎ OpensDesk sectors next x) (disk_in c.args.pages.now) (λ x left. inl (opens_now c.args.pages.now c.requires.working honest sectors d whole holds x left));
  any_version = λ honest working sectors x next whole holds then.
      leaves_here (λ i. OpensAs sectors x i ⊎ OpensAs sectors next i) (disk_in c.args.pages.now) (λ i left. inl (opens_now c.args.pages.now working honest sectors x.1 whole holds i left));
  held = search rules;
  ok = search rules;
  err = search (rules, err_of);
}

pub returns-in_err-commit : goal.returns-in_err-commit
returns-in_err-commit g c = record {
  commits = search rules;
  any_moment = λ honest sectors d next whole holds then.
      leaves_desk sectors holds.m then.m d next (disk_in c.args.pages.now) (disk_in c.commit.new.pages) holds.is then.is
      (c.commit.ensures.any_moment honest c.requires.working sectors holds.m then.m whole holds.holds (c.in_ok-prepared.ensures.held (stored c.args.pages.now) then.m then.holds));
  any_version = λ honest working sectors x next whole holds then.
      leaves_desk sectors holds.m then.m x.1 next.1 (disk_in c.args.pages.now) (disk_in c.commit.new.pages) holds.is then.is
      (c.commit.ensures.any_moment honest working sectors holds.m then.m whole holds.holds (c.in_ok-prepared.ensures.held (stored c.args.pages.now) then.m then.holds));
  held = search rules;
  ok = search rules;
  err = let a = c.args.pages.now in
      let b = c.commit.new.pages in
      let error = c.in_err-commit.field-0.0 in
      let writes = c.in_ok-prepared.ensures.more in
      let few = c.requires.few in
      search (rules, err_of, commit_refused);
}

pub returns : goal.returns
returns g c = record {
  commits = search rules;
  any_moment = λ honest sectors d next whole holds then.
      leaves_desk sectors holds.m then.m d next (disk_in c.args.pages.now) (disk_in c.commit.new.pages) holds.is then.is
      (c.commit.ensures.any_moment honest c.requires.working sectors holds.m then.m whole holds.holds (c.in_ok-prepared.ensures.held (stored c.args.pages.now) then.m then.holds));
  any_version = λ honest working sectors x next whole holds then.
      leaves_desk sectors holds.m then.m x.1 next.1 (disk_in c.args.pages.now) (disk_in c.commit.new.pages) holds.is then.is
      (c.commit.ensures.any_moment honest working sectors holds.m then.m whole holds.holds (c.in_ok-prepared.ensures.held (stored c.args.pages.now) then.m then.holds));
  held = search rules;
  ok = search rules;
  err = search rules;
}
