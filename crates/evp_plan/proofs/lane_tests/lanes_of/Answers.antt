use Rattle.std.proofs.Common.{ℕ, List, Option, IfSome, Vec, Global, refl, subst}
use Rattle.evp_plan.specs.declared.fill.Fill.{Fill}
use Rattle.evp_plan.specs.declared.fill.Window.{Window}
use Rattle.evp_plan.specs.Fills.{AreFilled, AreFillsOf}
use Rattle.evp_plan.specs.Lanes.{HaveFills}
use Rattle.evp_plan.proofs.LaneLists.{lanes_are}
use Rattle.evp_plan.proofs.lane_tests.lanes_of.Goals as goal

pub returns-clause-lanes : goal.returns-clause-lanes
returns-clause-lanes c =
    let fills = c.in-Some.fills.items in
    let windows = c.in_ok-windows-2.windows.items in
    let reach = c.reach_of-reach.result in
    let Made : Option (Vec Fill Global) → Type 0 = λ made. IfSome made (λ v. AreFillsOf c.args.order c.args.tests.now v.items) in
    let Look : List Window → List Fill → Type 0 = λ ws fs. (at : ℕ) (bytes : List ℕ) → HaveFills at bytes ws → AreFilled at bytes fs in
    let looked = c.are_looked_at.ensures c.if-not-are_looked_at.false in (
      refl,
      lanes_are c.args.order c.args.tests.now reach fills windows c.reach_of-reach.ensures c.if-reach-lt16.false
          (c.in_ok-windows-2.ensures.within reach c.in_ok-windows.ensures) (subst Made c.in-Some.is c.in_ok-fills.ensures)
          (subst (λ (ws : List Window). Look ws fills) c.as_slice.ensures.value
          (subst (Look c.as_slice.result.now) c.as_slice-2.ensures.value looked)),
    )

pub returns-clause-least : goal.returns-clause-least
returns-clause-least c = c.in_ok-windows-2.ensures.least
