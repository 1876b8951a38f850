use Rattle.evp_expr.proofs.ReadBack.{reads_back_law}
use Rattle.evp_expr.proofs.theorems.reads_back.Goals as goal

pub returns : goal.returns
returns c = reads_back_law
