use Rattle.std.proofs.Common.{ℕ, refl, ap, ◌∙◌, arith}
use Rattle.std.specs.List.{sum, sum_by}
use Rattle.std.proofs.lemmas.List.Sums.{sum_by-cons}
use Rattle.evp_graph.specs.declared.route.Route.{Route}
use Rattle.evp_stone.specs.Job.{submits}
use Rattle.evp_job.proofs.Added.{added_more, added_all}
use Rattle.evp_job.proofs.fill.carried.Goals as goal

pub loop-route-preserved : goal.loop-route-preserved
loop-route-preserved c =
    let routes = c.args.routes.now in
    let one : Route → ℕ = λ route. sum (submits route.source c.args.rounds.now) in
    let added = added_more (sum_by one) one (sum_by-cons one) routes c.loop-route.route-index
    c.route-item.result c.loop-route.records (sum_by one routes) c.loop-route-test.true c.route-item.is
    c.loop-route.invariant.added in
    let asked = c.submitted-records.ensures.value ∙ ap (λ (n : ℕ). sum (submits n c.args.rounds.now)) c.from.ensures in
    record {
      added = omega (arith, added, asked);
      few = omega (arith, c.submitted-records.ensures.few, c.loop-route.invariant.few);
    }

pub returns : goal.returns
returns c =
    let one : Route → ℕ = λ route. sum (submits route.source c.args.rounds.now) in
    added_all (sum_by one) c.args.routes.now c.loop-route.route-index c.loop-route.records
    (sum_by one c.args.routes.now) refl c.loop-route-test.false c.loop-route.invariant.added
