use Rattle.std.proofs.Common.{refl, ap, arith, length}
use Rattle.std.proofs.lemmas.Option.{slice_get_read}
use Rattle.evp_report.proofs.Chains.{through_none, through_one, through_cut, through_all}
use Rattle.evp_report.specs.Report.{told_in, told_of}
use Rattle.evp_report.proofs.report.put_routes.Goals as goal

pub loop-number-init : goal.loop-number-init
loop-number-init g c = through_none

pub loop-number-preserved : goal.loop-number-preserved
loop-number-preserved g c =
    through_one c.index-routes-number.result c.loop-number.invariant c.loop-number-test.true
    (ap (λ r. told_in c.args.round (told_of c.args.job.now r)) c.index-routes-number.is) c.in_ok-put_route.ensures

pub returns-in_err-put_route : goal.returns-in_err-put_route
returns-in_err-put_route g c =
    through_cut c.index-routes-number.result c.loop-number.invariant c.loop-number-test.true
    (ap (λ r. told_in c.args.round (told_of c.args.job.now r)) c.index-routes-number.is) c.in_err-put_route.ensures c.from_residual.ensures.0

pub put_route-requires : goal.put_route-requires
put_route-requires g c =
    let routes = c.args.routes.now in
    record {
      accounts = c.requires.accounts;
      there = c.requires.stand c.loop-number.number c.index-routes-number.result
          (slice_get_read routes (length routes) c.loop-number.number c.index-routes-number.result refl c.loop-number-test.true c.index-routes-number.is);
    }

pub returns : goal.returns
returns g c = through_all c.loop-number.invariant (omega (arith, c.loop-number-test.false))
