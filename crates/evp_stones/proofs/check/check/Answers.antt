use Rattle.evp_stones.proofs.Checked.{checked}
use Rattle.evp_stones.proofs.check.check.Goals as goal

pub returns : goal.returns
returns g c = checked g.D.Depot.held g.D.Depot.misses g.D.Depot.faults _ _ c.args.name.now c.job_of.result c.job_of.ensures.works
