use Rattle.std.proofs.Common.{◌≤◌, ◌+◌, ◌-◌, reverse, vec_len}
use Rattle.evp_graph.proofs.Onward.{Listing}
use Rattle.evp_graph.proofs.listing.routes.Given as goal

abbrev pub invariant-loop-route : goal.invariant-loop-route
invariant-loop-route l = record {
  listing : Listing l.graph l.list.items (reverse l.ahead.items);
  few : vec_len l.list + vec_len l.ahead ≤ 1024;
}

abbrev pub decreases-loop-route : goal.decreases-loop-route
decreases-loop-route l = 1024 - vec_len l.list
