use Rattle.{std.proofs.Common.{◌-◌, get_or, refl}, desk_store_lists.proofs.Forming.runs_more}
use Rattle.desk_store_lists.proofs.form.runs_of.Goals as goal

pub loop-from-preserved : goal.loop-from-preserved
loop-from-preserved c = record {
  within = c.run_end-end.ensures.within;
  said = runs_more c.args.list.now c.loop-from.runs.items c.push.new.self.items (record { district = get_or c.args.list.now c.loop-from.from 0; count = c.run_end-end.result - c.loop-from.from })
      c.loop-from.from c.run_end-end.result c.run_end-end.ensures.after c.in_ok-push.ensures.items c.loop-from.invariant.said c.run_end-end.ensures.same refl refl;
}
