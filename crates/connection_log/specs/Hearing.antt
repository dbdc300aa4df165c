-- What a log is handed.
use Rattle.{std.specs.{Borrow.Bor, Prelude.{Option, IfSome}}, connection_log.specs.declared.line.LogLine.LogLine, jiff_core.specs.declared.civil.datetime.DateTime.DateTime}

-- where there is a log it was handed this line, at some moment
abbrev pub IsNoted : {L : Type 0} → (L → LogLine → Type 0) → Option (Bor L) → (Option DateTime → LogLine) → Type 0
IsNoted notes log line = IfSome log (λ l. (at : Option DateTime) × notes l.now (line at))
