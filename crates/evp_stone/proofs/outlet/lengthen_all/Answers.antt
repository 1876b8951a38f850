use Rattle.std.proofs.Common.{refl, arith, rules}
use Rattle.evp_stone.specs.Turning.{everywhere}
use Rattle.evp_stone.proofs.LineUp.{longer_one, short_here}
use Rattle.evp_stone.proofs.outlet.lengthen_all.Goals as goal

pub overflow_add-outlets : goal.overflow_add-outlets
overflow_add-outlets c =
    let short = short_here everywhere c.args.outlets.now c.loop-position.outlets c.loop-position.position
    (record { route = 0; lined = 0 }) (omega arith) c.loop-position.invariant in
    search (rules, short)

pub loop-position-preserved : goal.loop-position-preserved
loop-position-preserved c = longer_one everywhere c.args.outlets.now c.loop-position.outlets c.loop-position.position
    (record { route = 0; lined = 0 }) _ (omega arith) refl refl c.loop-position.invariant
