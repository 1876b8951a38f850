use Rattle.std.proofs.Common.{◌∙◌, suc, List, subst, arith}
use Rattle.std.specs.Prelude.{All}
use Rattle.evp_crew.specs.Rota.{three_of}
use Rattle.evp_crew.specs.Rule.{IsServed}
use Rattle.evp_crew.specs.Seat.{SeatShape}
use Rattle.evp_crew.proofs.seating.put_all.Goals as goal

pub loop-seat-preserved : goal.loop-seat-preserved
loop-seat-preserved g c =
    let was = c.loop-seat.invariant in
    let all = subst (λ (l : List SeatShape). All (IsServed (three_of c.args.pass.now)) l) c.in-Some.ensures.steps.0 was.1 in (
      (c.put.ensures.pass.0, c.put.ensures.pass.1 ∙ was.0.1),
      λ k d below. all (suc k) d (omega arith),
    )
