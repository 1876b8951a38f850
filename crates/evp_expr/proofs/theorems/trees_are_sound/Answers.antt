use Rattle.evp_expr.proofs.Sounds.{trees_are_sound_law}
use Rattle.evp_expr.proofs.theorems.trees_are_sound.Goals as goal

pub returns : goal.returns
returns c = trees_are_sound_law
