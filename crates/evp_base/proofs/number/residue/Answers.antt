use Rattle.std.proofs.Common.{◌-◌, ◌*◌, ◌^◌, ◌<ℤ◌, pos, arith}
use Rattle.std.proofs.lemmas.Int.{ints}
use Rattle.evp_base.proofs.Complement.{width, residue-negative}
use Rattle.evp_base.proofs.number.residue.Goals as goal

pub overflow_cast-result : goal.overflow_cast-result
overflow_cast-result c =
    let wide = width c.args.size c.requires.allowed in
    grind (arith, ints, wide.half, wide.greatest, wide.least)

pub returns-then-n-lt0-clause-value : goal.returns-then-n-lt0-clause-value
returns-then-n-lt0-clause-value c =
    let size = c.args.size in
    let wide = width size c.requires.allowed in
    let below : c.args.n <ℤ pos 0 = omega (arith, ints) in
    let sum = residue-negative (2 ^ (8 * size - 1)) (2 ^ (8 * size)) c.args.n wide.half c.requires.fits.0 below in
    omega (arith, ints, sum, wide.half, wide.greatest)

pub returns-then-n-lt0-clause-below : goal.returns-then-n-lt0-clause-below
returns-then-n-lt0-clause-below c =
    let wide = width c.args.size c.requires.allowed in
    omega (arith, ints, wide.half, wide.greatest)
