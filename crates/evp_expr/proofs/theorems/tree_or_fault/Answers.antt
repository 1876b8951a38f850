use Rattle.evp_expr.proofs.Laws.{tree_or_fault_law}
use Rattle.evp_expr.proofs.theorems.tree_or_fault.Goals as goal

pub returns : goal.returns
returns c = tree_or_fault_law
