use Rattle.std.proofs.Common.{refl, arith, rules, inl}
use Rattle.evp_stone.proofs.LineUp.{longer_at, longer_none, short_at}
use Rattle.evp_stone.proofs.outlet.lengthen_at.Goals as goal

pub overflow_add-outlets : goal.overflow_add-outlets
overflow_add-outlets c =
    let short = short_at c.args.outlets.now c.from-place.result (record { route = 0; lined = 0 }) (omega arith) c.requires in
    search (rules, short)

pub returns-then-place-outlets : goal.returns-then-place-outlets
returns-then-place-outlets c = longer_at c.args.outlets.now c.args.position 0 c.from-place.result (record { route = 0; lined = 0 }) _
    (omega (arith, c.from-place.ensures)) (omega arith) refl

pub returns-else-place-outlets : goal.returns-else-place-outlets
returns-else-place-outlets c = longer_none c.args.outlets.now c.args.position 0 (inl (omega (arith, c.from-place.ensures)))
