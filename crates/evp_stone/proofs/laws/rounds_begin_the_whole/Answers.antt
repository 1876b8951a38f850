use Rattle.evp_stone.proofs.Whole.{rounds_begin}
use Rattle.evp_stone.proofs.laws.rounds_begin_the_whole.Goals as goal

pub returns : goal.returns
returns c = rounds_begin c.args.job.now c.parts-kept.ensures.kept
