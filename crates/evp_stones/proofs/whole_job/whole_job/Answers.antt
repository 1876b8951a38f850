use Rattle.evp_stones.proofs.WholeJobs.{with_text}
use Rattle.evp_stones.proofs.whole_job.whole_job.Goals as goal

pub returns : goal.returns
returns g c =
    with_text g.D.Depot.held g.D.Depot.misses g.D.Depot.faults _ _ _ c.args.name.now c.in_ok-text.text c.with_files.result
    c.in_ok-text.ensures.works c.with_files.ensures
