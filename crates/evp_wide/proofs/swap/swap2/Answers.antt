use Rattle.std.proofs.Common.{◌∙◌, arith}
use Rattle.evp_wide.proofs.Turned.{all_turned2}
use Rattle.evp_wide.proofs.swap.swap2.Goals as goal

pub returns : goal.returns
returns c = c.move_elements.ensures ∙ all_turned2 _ c.args.from.now (omega arith)
