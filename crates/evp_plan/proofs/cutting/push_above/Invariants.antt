use Rattle.evp_plan.proofs.FillLists.{AddsSoFar}
use Rattle.evp_plan.proofs.cutting.push_above.Given as goal

abbrev pub invariant-loop-k : goal.invariant-loop-k
invariant-loop-k l = AddsSoFar l.order l.words l.size l.sign l.k l.fn.fills.items l.fills.items
