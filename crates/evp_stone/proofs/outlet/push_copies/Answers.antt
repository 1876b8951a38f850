use Rattle.std.proofs.Common.{refl, subst, get_or, arith}
use Rattle.evp_stone.specs.Lining.{Sending, IsAt, IsOf}
use Rattle.evp_stone.specs.Turning.{everywhere}
use Rattle.evp_stone.specs.Working.{outlet_of, sending_of}
use Rattle.evp_stone.proofs.LineUp.{lined_one, lined_all}
use Rattle.evp_stone.proofs.outlet.push_copies.Goals as goal

pub loop-position-preserved : goal.loop-position-preserved
loop-position-preserved c = rw c.in_ok-push.ensures
    (lined_one (IsOf (sending_of c.args.sending.now)) everywhere c.args.outlets.now c.loop-position.position (record { route = 0; lined = 0 })
    c.loop-position.waiting.items c.entry.result (omega arith) refl
    (subst (λ (s : Sending). IsAt (IsOf s)
    (outlet_of (get_or c.args.outlets.now c.loop-position.position (record { route = 0; lined = 0 }))) c.entry.result) c.in_ok-copy.ensures c.entry.ensures) c.loop-position.invariant)

pub returns : goal.returns
returns c = lined_all (IsOf (sending_of c.args.sending.now)) everywhere c.args.outlets.now c.loop-position.position
    c.loop-position.waiting.items (omega arith) c.loop-position.invariant
