use Rattle.std.proofs.Common.{◌≡◌, take}
use Rattle.evp_expr.proofs.expr.copied_nodes.Given as goal

abbrev pub invariant-loop-node : goal.invariant-loop-node
invariant-loop-node l = l.copied.items ≡ take l.node-index l.nodes
