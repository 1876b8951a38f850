use Rattle.std.proofs.Common.{ap, arith}
use Rattle.evp_job.specs.SourceView.{sources_of}
use Rattle.evp_report.proofs.Chains.{through_none, through_one, through_cut, through_all}
use Rattle.evp_stones.specs.Check.{route_line}
use Rattle.evp_stones.proofs.check.put_routes.Goals as goal

pub loop-route-init : goal.loop-route-init
loop-route-init g c = through_none

pub loop-route-preserved : goal.loop-route-preserved
loop-route-preserved g c =
    through_one c.route-item.result c.loop-route.invariant c.loop-route-test.true
    (ap (route_line (sources_of c.args.sources.now)) c.route-item.is) c.in_ok-put_route.ensures

pub returns-in_err-put_route : goal.returns-in_err-put_route
returns-in_err-put_route g c =
    through_cut c.route-item.result c.loop-route.invariant c.loop-route-test.true
    (ap (route_line (sources_of c.args.sources.now)) c.route-item.is) c.in_err-put_route.ensures c.from_residual.ensures.0

pub returns : goal.returns
returns g c = through_all c.loop-route.invariant (omega (arith, c.loop-route-test.false))
