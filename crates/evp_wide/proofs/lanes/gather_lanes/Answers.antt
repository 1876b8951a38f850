use Rattle.evp_wide.proofs.Gathers.{allowed, stored}
use Rattle.evp_wide.proofs.lanes.gather_lanes.Goals as goal

pub swizzle : goal.swizzle
swizzle c = allowed c.args.mask c.requires.mask.1 c.requires.mask.0

pub returns : goal.returns
returns c = stored c.args.to c.args.out.now _ c.args.mask c.requires.room c.requires.mask.1 c.requires.mask.0
