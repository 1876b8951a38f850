use Rattle.evp_stones.proofs.Complete.{completes}
use Rattle.evp_stones.proofs.alone.alone.Goals as goal

pub returns-clause-complete : goal.returns-clause-complete
returns-clause-complete g c =
    completes g.D.Depot.held g.D.Depot.misses g.D.Depot.faults g.K.Sink.faults g.K.Sink.put _ _ _ _ _ _ c.answer.ensures
