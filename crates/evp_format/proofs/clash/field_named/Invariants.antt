use Rattle.std.proofs.Common.{◌≡◌, List, drop}
use Rattle.evp_format.specs.Clashing.{branch_named}
use Rattle.evp_format.specs.Tree.{Tree, branches_of}
use Rattle.evp_format.proofs.clash.field_named.Given as goal

abbrev pub invariant-loop-field : goal.invariant-loop-field
invariant-loop-field l = (earlier : List Tree) → branch_named l.name (branches_of earlier (drop l.field-index l.fields))
    ≡ branch_named l.name (branches_of earlier l.fields)
