use Rattle.std.proofs.Common.{◌∙◌, arith}
use Rattle.evp_wide.proofs.Turned.{all_turned4}
use Rattle.evp_wide.proofs.swap.swap4.Goals as goal

pub returns : goal.returns
returns c = c.move_elements.ensures ∙ all_turned4 _ c.args.from.now (omega arith)
