use Rattle.{std.proofs.Common.{◌≡◌, ◌+◌, ◌≤◌, drop}, connection_log.specs.Answers.count_from}
use Rattle.connection_log.proofs.answers.answers_in.Given as goal

abbrev pub invariant-loop-place : goal.invariant-loop-place
invariant-loop-place l = record {
  all : l.all + count_from 50 (drop l.place l.text) ≡ count_from 50 l.text;
  refusals : l.refusals + count_from 52 (drop l.place l.text) ≡ count_from 52 l.text;
  some : l.all ≤ l.place;
  few : l.refusals ≤ l.place;
}
