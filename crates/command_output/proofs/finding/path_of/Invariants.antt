use Rattle.{std.proofs.Common.{◌≡◌, drop, map}, command_output.specs.Lines.{path_among, named}}
use Rattle.command_output.proofs.finding.path_of.Given as goal

abbrev pub invariant-loop-file : goal.invariant-loop-file
invariant-loop-file l = path_among l.role (map named (drop l.file-index l.files)) ≡ path_among l.role (map named l.files)
