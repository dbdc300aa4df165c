use Rattle.std.proofs.Common.{◌≡◌}
use Rattle.desk_store_catalogue.proofs.made.report_again.Goals as goal

pub returns-in-Some-text_for-clause-text : goal.returns-in-Some-text_for-clause-text
returns-in-Some-text_for-clause-text c = let same : c.in-Some.made ≡ c.args.geography.now.value = rw c.in-Some.is at c.requires.last in rw same at c.in-Some-text_for.ensures

pub returns-in-Some-text_for-clause-last : goal.returns-in-Some-text_for-clause-last
returns-in-Some-text_for-clause-last c = rw c.in-Some.is at c.requires.last

pub report-requires : goal.report-requires
report-requires c = rw c.deref.ensures c.requires.auditable

pub new-requires : goal.new-requires
new-requires c = rw c.deref.ensures at c.in_ok-text.ensures

pub returns-clause-text : goal.returns-clause-text
returns-clause-text c = rw c.deref.ensures at c.in_ok-text.ensures
