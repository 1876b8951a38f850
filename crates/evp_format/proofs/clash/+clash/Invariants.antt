use Rattle.std.proofs.Common.{◌≡◌, ◌+◌, ◌*◌, drop}
use Rattle.evp_format.specs.Clashing.{clash_trees}
use Rattle.evp_format.specs.Tree.{trees, tree_of, branches_of}
use Rattle.evp_format.proofs.Clashes.{clash_from}
use Rattle.evp_format.proofs.clash.+clash.Given as goal

abbrev pub decreases-clash_of_types : goal.decreases-clash_of_types
decreases-clash_of_types l = 2 * l.receiver + 1

abbrev pub decreases-clash_of_field : goal.decreases-clash_of_field
decreases-clash_of_field l = 2 * l.receiver

-- the fields so far don't clash
abbrev pub invariant-clash_of_types-loop-field : goal.invariant-clash_of_types-loop-field
invariant-clash_of_types-loop-field l =
    clash_from (tree_of l.from l.sender) (branches_of (trees l.to.types) (drop l.field-index l.fields))
    ≡ clash_trees (tree_of l.from l.sender) (tree_of l.to l.receiver)
