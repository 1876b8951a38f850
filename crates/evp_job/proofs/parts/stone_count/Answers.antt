use Rattle.std.proofs.Common.{◌≡◌, length, sym, ◌∙◌}
use Rattle.evp_job.proofs.Lowered.{stones_count}
use Rattle.evp_job.proofs.parts.stone_count.Goals as goal

pub returns : goal.returns
returns c = sym (stones_count c.args.stones.now)
