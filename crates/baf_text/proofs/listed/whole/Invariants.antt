use Rattle.baf_text.proofs.Parts.{IsWholeTo}
use Rattle.baf_text.proofs.listed.whole.Given as goal

abbrev pub invariant-loop-i : goal.invariant-loop-i
invariant-loop-i l = IsWholeTo l.listed l.first l.districts.items l.i
