use Rattle.std.proofs.Common.{arith}
use Rattle.evp_wide.proofs.Blocks.{places_of}
use Rattle.evp_wide.proofs.Gathers.{allowed, stored_with}
use Rattle.evp_wide.proofs.lanes.gather_or.Goals as goal

pub swizzle-picked : goal.swizzle-picked
swizzle-picked c = let m = c.args.mask.now in allowed m.places m.sixteen (places_of 16 m.places (omega arith) m.in_window)

pub returns : goal.returns
returns c =
    let m = c.args.mask.now in
    stored_with c.args.to c.args.out.now _ m.places c.args.constant.now c.requires.room m.sixteen c.told-constant
    (places_of 16 m.places (omega arith) m.in_window)
