use Rattle.evp_stones.proofs.Answered.{words_exactly}
use Rattle.evp_stones.proofs.Complete.{completes}
use Rattle.evp_stones.proofs.top.stones.Goals as goal

pub returns-clause-complete : goal.returns-clause-complete
returns-clause-complete g c =
    completes g.D.Depot.held g.D.Depot.misses g.D.Depot.faults g.K.Sink.faults g.K.Sink.put _ _ _ _ _ _ c.answer.ensures

pub returns-clause-words : goal.returns-clause-words
returns-clause-words g c =
    words_exactly g.D.Depot.held g.D.Depot.misses g.D.Depot.faults g.K.Sink.faults g.K.Sink.put _ _ _ _ _ _ c.answer.ensures
