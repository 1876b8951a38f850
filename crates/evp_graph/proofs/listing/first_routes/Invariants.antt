use Rattle.std.proofs.Common.{◌≡◌, ◌≤◌, length, reverse, drop}
use Rattle.evp_graph.specs.Ahead.{starts}
use Rattle.evp_graph.proofs.listing.first_routes.Given as goal

abbrev pub invariant-loop-source : goal.invariant-loop-source
invariant-loop-source l = (l.source ≤ length l.sources) × (l.ahead.items ≡ reverse (drop l.source (starts l.sources)))

abbrev pub decreases-loop-source : goal.decreases-loop-source
decreases-loop-source l = l.source
