use Rattle.std.proofs.Common.{◌≡◌, ◌≤◌, List, take, map}
use Rattle.evp_format.specs.Tree.{Tree, branches_of}
use Rattle.evp_format.specs.WellLaid.{depth, branches_depth}
use Rattle.evp_format.proofs.whole_type.depth_behind.Given as goal

abbrev pub invariant-loop-field : goal.invariant-loop-field
invariant-loop-field l = record {
  deepest : (trees : List Tree) → l.depths ≡ map depth trees → l.deepest ≡ branches_depth (branches_of trees (take l.field-index l.fields));
  bound : l.deepest ≤ 16;
}
