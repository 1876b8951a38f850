use Rattle.std.proofs.Common.{◌≡◌, ◌≤◌, ◌++◌, length, reverse, drop}
use Rattle.evp_graph.specs.Ahead.{extensions}
use Rattle.evp_graph.proofs.listing.push_extensions.Given as goal

abbrev pub invariant-loop-position : goal.invariant-loop-position
invariant-loop-position l = (l.position ≤ length l.row) ×
    (l.ahead.items ≡ l.fn.ahead.items ++ reverse (drop l.position (extensions l.route l.row)))

abbrev pub decreases-loop-position : goal.decreases-loop-position
decreases-loop-position l = l.position
