use Rattle.{std.proofs.Common.sym, desk_store_catalogue.proofs.Outside.unchanged}
use Rattle.desk_store_catalogue.proofs.changes.is_changed.Goals as goal

pub returns-then-is_outside : goal.returns-then-is_outside
returns-then-is_outside c =
    rw c.in-Some.is (sym (unchanged c.args.span.first c.args.span.end c.args.range c.in-Some.last.now c.args.new.now (rw c.in-Some.is at c.requires.last_long) c.requires.new_long (rw c.in-Some.is at c.requires.stays) (c.is_outside.ensures c.if-is_outside.true)))
