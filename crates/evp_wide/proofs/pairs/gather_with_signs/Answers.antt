use Rattle.std.proofs.Common.{arith}
use Rattle.evp_wide.proofs.Blocks.{places_of}
use Rattle.evp_wide.proofs.Gathers.{allowed}
use Rattle.evp_wide.proofs.TwoWindows.{stored_with_signs}
use Rattle.evp_wide.proofs.pairs.gather_with_signs.Goals as goal

pub swizzle-picked : goal.swizzle-picked
swizzle-picked c = let m = c.args.mask.now in allowed m.places m.sixteen (places_of 16 m.places (omega arith) m.in_window)

pub swizzle-others : goal.swizzle-others
swizzle-others c = let m = c.args.other_mask.now in allowed m.places m.sixteen (places_of 16 m.places (omega arith) m.in_window)

pub returns : goal.returns
returns c =
    let m = c.args.mask.now in
    let other = c.args.other_mask.now in
    stored_with_signs c.args.to c.args.out.now _ m.places _ other.places c.requires.room m.sixteen (places_of 16 m.places (omega arith) m.in_window)
    other.sixteen (places_of 16 other.places (omega arith) other.in_window)
