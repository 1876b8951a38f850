use Rattle.std.proofs.Common.{length, sym, ap, ◌∙◌, arith}
use Rattle.std.proofs.lemmas.Bool.{false≢true}
use Rattle.evp_stone.specs.JobShape.{JobShape}
use Rattle.evp_stone.proofs.Along.{element_at}
use Rattle.evp_crew.proofs.WayFacts.{ways_one, ways_not, ways_all}
use Rattle.evp_crew.proofs.ways.ways.Goals.{then-is_way+in_ok-push, else-is_way}
use Rattle.evp_crew.proofs.ways.ways.Goals as goal

pub loop-number-preserved : goal.loop-number-preserved
loop-number-preserved c =
    let job = c.args.job.now in
    let number = c.loop-number.number in
    let same = c.as_slice-routes.ensures ∙ ap (λ (j : JobShape). j.routes) c.parts.ensures.value in
    let route = c.index-routes-number.result in
    let at = element_at c.as_slice-routes.result.now job.routes number route same c.loop-number-test.true c.index-routes-number.is in
    elim c.if-is_way.branch [
      | then-is_way+in_ok-push w ↦ rw (w.numbers-is, w.in_ok-push.ensures.items)
          (ways_one job c.args.giver c.args.target number c.loop-number.numbers.items route at (c.is_way.ensures.0 w.if-is_way.true)
          c.loop-number.invariant)
      | else-is_way w ↦ rw w.numbers-is
          (ways_not job c.args.giver c.args.target number c.loop-number.numbers.items route at
          (λ is. absurd (false≢true (sym w.if-is_way.false ∙ c.is_way.ensures.1 is))) c.loop-number.invariant)
    ]

pub returns : goal.returns
returns c =
    let same = c.as_slice-routes.ensures ∙ ap (λ (j : JobShape). j.routes) c.parts.ensures.value in
    let long = ap length same in
    let past = c.loop-number-test.false in
    ways_all c.args.job.now c.args.giver c.args.target c.loop-number.number c.loop-number.numbers.items (omega arith)
    c.loop-number.invariant
