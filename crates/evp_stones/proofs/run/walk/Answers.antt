use Rattle.evp_report.specs.Report.{report}
use Rattle.evp_stones.specs.Steps.{seen_by}
use Rattle.evp_stones.proofs.Runs.{walk_with}
use Rattle.evp_stones.proofs.run.walk.Goals as goal

pub returns : goal.returns
returns g c =
    walk_with g.D.Depot.held g.D.Depot.misses g.D.Depot.faults _ _ _ c.args.name.now c.args.order.now c.in_ok-job.job
    (seen_by report c.walk_by.result) c.in_ok-job.ensures c.walk_by.ensures
