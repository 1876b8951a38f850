use Rattle.std.proofs.Common.{arith}
use Rattle.evp_wide.proofs.Blocks.{places_of}
use Rattle.evp_wide.proofs.lanes.gather.Goals as goal

pub gather_lanes-requires-clause-mask : goal.gather_lanes-requires-clause-mask
gather_lanes-requires-clause-mask c = (
  places_of 16 c.args.mask.now.places (omega arith) c.args.mask.now.in_window,
  c.args.mask.now.sixteen,
)
