use Rattle.std.proofs.Common.{arith}
use Rattle.evp_wide.proofs.Blocks.{places_of}
use Rattle.evp_wide.proofs.Gathers.{allowed}
use Rattle.evp_wide.proofs.Signs.{stored_signs}
use Rattle.evp_wide.proofs.lanes.gather_signs.Goals as goal

pub swizzle-picked : goal.swizzle-picked
swizzle-picked c = let m = c.args.blend.now.mask in allowed m.places m.sixteen (places_of 16 m.places (omega arith) m.in_window)

pub returns : goal.returns
returns c =
    let b = c.args.blend.now in
    stored_signs c.args.to c.args.out.now _ b.mask.places b.keep b.constant c.requires.room b.mask.sixteen b.keeps b.sets
    (places_of 16 b.mask.places (omega arith) b.mask.in_window)
