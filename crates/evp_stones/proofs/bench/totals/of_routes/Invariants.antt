use Rattle.std.proofs.Common.{◌≡◌, ◌*◌, ◌^◌, take}
use Rattle.evp_stones.specs.AccountTotals.{route_of, IsWithin}
use Rattle.evp_stones.specs.Totals.{sums}
use Rattle.evp_stones.proofs.bench.totals.of_routes.Given as goal

-- the totals of the routes before this one
abbrev pub invariant-loop-route : goal.invariant-loop-route
invariant-loop-route l = record {
  made : l.totals ≡ sums route_of (take l.route-index l.routes);
  within : IsWithin (l.route-index * 2 ^ 70) l.totals;
}
