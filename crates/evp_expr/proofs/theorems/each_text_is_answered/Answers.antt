use Rattle.evp_expr.proofs.Laws.{each_text_is_answered_law}
use Rattle.evp_expr.proofs.theorems.each_text_is_answered.Goals as goal

pub returns : goal.returns
returns c = each_text_is_answered_law
