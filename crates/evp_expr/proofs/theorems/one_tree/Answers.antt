use Rattle.evp_expr.proofs.Laws.{one_tree_law}
use Rattle.evp_expr.proofs.theorems.one_tree.Goals as goal

pub returns : goal.returns
returns c = one_tree_law
