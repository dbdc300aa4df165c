use Rattle.{std.proofs.Common.rules, desk_store_pages.proofs.{Formatted.{format_refused, new_opens, new_journal}, Outcomes.err_of}}
use Rattle.desk_store_pages.proofs.formatting.format.Goals as goal

pub returns-in_err-format_with-clause-formats : goal.returns-in_err-format_with-clause-formats
returns-in_err-format_with-clause-formats g c = search (rules, err_of, format_refused)

pub returns-clause-new : goal.returns-clause-new
returns-clause-new g c = λ honest. new_opens c.args.journal_pages c.write_version.new.page _ c.write_version.ensures (c.in_ok-format_with.ensures.new honest)

pub returns-clause-journal : goal.returns-clause-journal
returns-clause-journal g c = λ honest. new_journal c.args.journal_pages c.write_version.new.page _ (c.in_ok-format_with.ensures.new honest)
