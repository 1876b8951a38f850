use Rattle.evp_format.specs.Tree.{empty_tree}
use Rattle.evp_format.proofs.Trees.{get_or-trees-append}
use Rattle.evp_format.proofs.laws.earlier_trees_stay.Goals as goal

pub returns : goal.returns
returns c = λ types more k below. get_or-trees-append types more k empty_tree below
