use Rattle.{std.proofs.Common.{refl, rules}, desk_store.proofs.{Moved.quieted, Swept.{checked_failed, refused_so}}}
use Rattle.desk_store.proofs.clerk.Clerk.check_holders.Goals as goal

pub returns-then-has_failed : goal.returns-then-has_failed
returns-then-has_failed g c = search (c.in-Err.ensures, checked_failed, c.in-Err.e, c.if-self.false, c.if-has_failed.ensures.failed refl)

pub returns-in-Ok : goal.returns-in-Ok
returns-in-Ok g c = record { maintains = search quieted; quiet = search rules; sound = search rules }

pub returns-else-has_failed : goal.returns-else-has_failed
returns-else-has_failed g c = let off = c.if-has_failed.ensures.passed refl in search (rules, quieted, refused_so, off.0, c.if-self.false, c.in-Err.ensures.err)
