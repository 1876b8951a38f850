use Rattle.std.proofs.Common.{◌≡◌, ◌∙◌, zero, suc, List, length, sym, ap, subst, arith}
use Rattle.std.specs.Prelude.{All}
use Rattle.std.specs.Vec.Iter.{into_iter_items}
use Rattle.evp_crew.specs.Rota.{three}
use Rattle.evp_crew.specs.Rule.{IsOfThree}
use Rattle.evp_crew.specs.Seat.{SeatShape}
use Rattle.evp_crew.proofs.Serving.{serving_none}
use Rattle.evp_crew.proofs.Working.{served_by}
use Rattle.evp_crew.proofs.seating.a_rota_each.Goals as goal

pub put-requires-clause-seat : goal.put-requires-clause-seat
put-requires-clause-seat g c =
    let t = three c.args.job.now c.args.cache.now c.args.crew.now in
    let all = subst (λ (l : List SeatShape). All (IsOfThree t) l) c.in-Some.ensures.steps.0 c.loop-seat.invariant.1.0 in
    served_by _ t c.in-Some.seat c.in_ok-rota.ensures.three (all zero c.in-Some.seat (omega arith))

pub loop-seat-init : goal.loop-seat-init
loop-seat-init g c =
    let t = three c.args.job.now c.args.cache.now c.args.crew.now in
    let gives : into_iter_items c.into_iter-seat-iterator.result ≡ c.args.seats.items = c.into_iter-seat-iterator.ensures.into_iter_gives.0 in (
      serving_none t _ _ c.in_ok-rotas.ensures.items c.in_ok-desks.ensures.items,
      (
        subst (λ (l : List SeatShape). All (IsOfThree t) l) (sym gives) c.requires,
        let none = ap length c.in_ok-rotas.ensures.items in let all = ap length gives in omega arith,
      ),
    )

pub loop-seat-preserved : goal.loop-seat-preserved
loop-seat-preserved g c =
    let was = c.loop-seat.invariant in
    let t = three c.args.job.now c.args.cache.now c.args.crew.now in
    let all = subst (λ (l : List SeatShape). All (IsOfThree t) l) c.in-Some.ensures.steps.0 was.1.0 in (
      c.in_ok-add_rota.ensures.serving t was.0
          record { serves = c.put.ensures.pass.0; knows = c.put.ensures.pass.1 ∙ c.in_ok-rota.ensures.three },
      (
        λ k d below. all (suc k) d (omega arith),
        let one = c.in_ok-add_rota.ensures.one in
            let next = ap length c.in-Some.ensures.steps.0 in let so_far = was.1.1 in omega arith,
      ),
    )
