use Rattle.evp_format.specs.Tree.{root_of}
use Rattle.evp_format.proofs.Trees.{laid_root}
use Rattle.evp_format.proofs.Zeros.{zero_tree_typed}
use Rattle.evp_format.proofs.laws.zero_is_of_format.Goals as goal

pub returns : goal.returns
returns c = λ layout laid. zero_tree_typed layout.pointer 0 (root_of layout) (laid_root layout laid)
