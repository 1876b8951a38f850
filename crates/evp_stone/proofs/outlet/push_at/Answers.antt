use Rattle.std.proofs.Common.{arith, inl}
use Rattle.std.proofs.lemmas.Result.{on_ok_weaker}
use Rattle.evp_stone.specs.Lining.{IsOf}
use Rattle.evp_stone.specs.Working.{sending_of}
use Rattle.evp_stone.proofs.LineUp.{lined_none, lined_at}
use Rattle.evp_stone.proofs.outlet.push_at.Goals as goal

pub returns-then-place-outlets : goal.returns-then-place-outlets
returns-then-place-outlets c = rw c.requires
    (lined_none (IsOf (sending_of c.args.sending)) c.args.outlets.now c.args.position 0 (inl (omega (arith, c.from-place.ensures))))

pub returns : goal.returns
returns c = on_ok_weaker c.push.result (λ pushed. rw pushed (rw c.requires
    (lined_at (IsOf (sending_of c.args.sending)) c.args.outlets.now c.args.position 0 c.from-place.result (record { route = 0; lined = 0 })
    c.entry.result (omega (arith, c.from-place.ensures)) (omega arith) c.entry.ensures)))
    c.push.ensures
