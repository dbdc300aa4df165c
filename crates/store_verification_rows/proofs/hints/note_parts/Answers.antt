use Rattle.{std.proofs.Common.{sym, ◌∙◌}, page_store.proofs.Stops.{quiet_more, quiet_none}}
use Rattle.store_verification_rows.proofs.hints.note_parts.Goals as goal

pub loop-taken-init : goal.loop-taken-init
loop-taken-init g c = record { begun = c.requires.begun; quiet = quiet_none c.args.pages.now }

pub loop-taken-preserved : goal.loop-taken-preserved
loop-taken-preserved g c = record { begun = c.loop-taken.invariant.begun ∙ sym c.next.ensures.quiet.count; quiet = quiet_more _ _ _ c.loop-taken.invariant.quiet c.next.ensures.quiet }

pub returns-then-not-next : goal.returns-then-not-next
returns-then-not-next g c = record { quiet = quiet_more _ _ _ c.loop-taken.invariant.quiet c.next.ensures.quiet }

pub returns-in_err-note_row : goal.returns-in_err-note_row
returns-in_err-note_row g c = record { quiet = quiet_more _ _ _ c.loop-taken.invariant.quiet c.next.ensures.quiet }
