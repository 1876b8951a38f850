use Rattle.evp_core.proofs.GoOn.{goes_on}
use Rattle.evp_core.proofs.world.World.goes_on.Goals as goal

pub returns : goal.returns
returns c = goes_on c.args.self.now c.count-actors.ensures.held.rules c.count-actors.ensures.held.job
