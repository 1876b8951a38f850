use Rattle.std.proofs.Common.{drop, arith}
use Rattle.evp_wide.specs.Gathered.{gathered, signs_gathered}
use Rattle.evp_wide.proofs.Blocks.{places_of}
use Rattle.evp_wide.proofs.Gathers.{allowed}
use Rattle.evp_wide.proofs.SignLanes.{differing, differences_none, differences_long, gathered_long, signs_long}
use Rattle.evp_wide.proofs.fills.Differences.between.Goals as goal

pub swizzle-picked : goal.swizzle-picked
swizzle-picked c = let m = c.args.picks.now in allowed m.places m.sixteen (places_of 16 m.places (omega arith) m.in_window)

pub swizzle-signed : goal.swizzle-signed
swizzle-signed c = let m = c.args.signs.now in allowed m.places m.sixteen (places_of 16 m.places (omega arith) m.in_window)

pub returns : goal.returns
returns c =
    let p = c.args.picks.now in
    let s = c.args.signs.now in
    let bytes = drop c.args.at c.args.from.now in
    differences_none (gathered p.places bytes) (signs_gathered s.places bytes) _ (gathered_long p.places bytes p.sixteen)
    (signs_long s.places bytes s.sixteen)
    (differing bytes p.places s.places p.sixteen (places_of 16 p.places (omega arith) p.in_window) s.sixteen
    (places_of 16 s.places (omega arith) s.in_window))

pub invariant_of-result : goal.invariant_of-result
invariant_of-result c =
    let p = c.args.picks.now in
    let s = c.args.signs.now in
    let bytes = drop c.args.at c.args.from.now in
    differences_long (gathered p.places bytes) (signs_gathered s.places bytes) _ (gathered_long p.places bytes p.sixteen)
    (signs_long s.places bytes s.sixteen)
    (differing bytes p.places s.places p.sixteen (places_of 16 p.places (omega arith) p.in_window) s.sixteen
    (places_of 16 s.places (omega arith) s.in_window))
