use Rattle.std.proofs.Common.{◌≡◌, ◌+◌, ◌*◌, ◌^◌, ◌≤◌, drop}
use Rattle.std.specs.List.{sum, sum_by}
use Rattle.evp_graph.specs.declared.route.Route.{Route}
use Rattle.evp_stone.specs.Job.{submits}
use Rattle.evp_job.proofs.fill.carried.Given as goal

abbrev pub invariant-loop-route : goal.invariant-loop-route
invariant-loop-route l = record {
  added : l.records + sum_by (λ (route : Route). sum (submits route.source l.rounds)) (drop l.route-index l.routes)
      ≡ sum_by (λ (route : Route). sum (submits route.source l.rounds)) l.routes;
  few : l.records ≤ 2 ^ 38 * l.route-index;
}
