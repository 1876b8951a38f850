use Rattle.std.proofs.Common.{◌+◌, ◌*◌, ◌∷◌, [], length, ap, arith, length-append}
use Rattle.evp_plan.proofs.FourLists.{own_index, four_pushed}
use Rattle.evp_plan.proofs.fours.fours_of.Goals as goal

pub loop-four-preserved : goal.loop-four-preserved
loop-four-preserved c =
    let gathers = c.args.gathers.now in
    let k = c.loop-four.four in
    let made = c.in-Some.made in
    let is = c.in-Some.ensures in
    let below = c.loop-four-test.true in
    let more = ap length c.in_ok-push.ensures.items in
    let long = length-append c.loop-four.fours.items (made ∷ []) in
    let so_far = c.loop-four.invariant.0 in (
      omega (arith, more, long, so_far),
      (
        omega (arith, below),
        four_pushed gathers k c.loop-four.fours.items c.push.new.self.items made (omega (arith, below)) c.loop-four.invariant.1.1
            (own_index gathers (k * 4) made.one c.index-gathers-k.result is.0 c.index-gathers-k.is)
            (own_index gathers (k * 4 + 1) made.two c.index-gathers-k-in-loop-four.result is.1.0 c.index-gathers-k-in-loop-four.is)
            (own_index gathers (k * 4 + 2) made.three c.index-gathers-k-in-loop-four-2.result is.1.1.0 c.index-gathers-k-in-loop-four-2.is)
            (own_index gathers (k * 4 + 3) made.four c.index-gathers-k-in-loop-four-3.result is.1.1.1 c.index-gathers-k-in-loop-four-3.is)
            c.in_ok-push.ensures.items,
      ),
    )
