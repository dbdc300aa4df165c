use Rattle.{std.proofs.Common.{sym, ◌∙◌}, page_store.proofs.Stops.{quiet_more, quiet_none}}
use Rattle.store_verification.proofs.counties.counties_of_load.Goals as goal

pub loop-taken-init : goal.loop-taken-init
loop-taken-init g c = record { begun = c.requires.begun; quiet = quiet_none c.args.pages.now }

pub loop-taken-preserved : goal.loop-taken-preserved
loop-taken-preserved g c = record { begun = c.loop-taken.invariant.begun ∙ sym c.advance.ensures.quiet.count; quiet = quiet_more _ _ _ c.loop-taken.invariant.quiet c.advance.ensures.quiet }

pub returns-then-not-advance : goal.returns-then-not-advance
returns-then-not-advance g c = record { quiet = quiet_more _ _ _ c.loop-taken.invariant.quiet c.advance.ensures.quiet }

pub returns-in_err-block : goal.returns-in_err-block
returns-in_err-block g c = record { quiet = quiet_more _ _ _ c.loop-taken.invariant.quiet c.advance.ensures.quiet }

pub returns-in_err-count : goal.returns-in_err-count
returns-in_err-count g c = record { quiet = quiet_more _ _ _ c.loop-taken.invariant.quiet c.advance.ensures.quiet }
