use Rattle.{std.{specs.{Prelude.filter, Str.Lines.lines}, proofs.Common.{◌≡◌, ◌+◌, ◌≤◌, not, eqb, length}}, http_desk_streams.specs.Accepting.rows_in}
use Rattle.http_desk_streams.proofs.rows.count_rows.Given as goal

abbrev pub invariant-loop-line : goal.invariant-loop-line
invariant-loop-line l = record {
  all : l.count + length (filter (λ line. not (eqb (length line) 0)) (lines l.rest)) ≡ rows_in l.text;
  few : l.count + length l.rest ≤ length l.text;
}

abbrev pub decreases-loop-line : goal.decreases-loop-line
decreases-loop-line l = length l.rest
