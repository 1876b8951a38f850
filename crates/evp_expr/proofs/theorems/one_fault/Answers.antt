use Rattle.evp_expr.proofs.Laws.{one_fault_law}
use Rattle.evp_expr.proofs.theorems.one_fault.Goals as goal

pub returns : goal.returns
returns c = one_fault_law
