use Rattle.std.proofs.lemmas.List.Elements.{All-more}
use Rattle.evp_plan.specs.Fills.{IsFilled}
use Rattle.evp_plan.proofs.LaneLists.{all_taken}
use Rattle.evp_plan.proofs.lane_tests.are_looked_at.Goals as goal

pub loop-fill-preserved : goal.loop-fill-preserved
loop-fill-preserved c = λ at bytes have.
    All-more (IsFilled at bytes) c.args.fills.now c.loop-fill.fill-index _ c.loop-fill-test.true (c.loop-fill.invariant at bytes have)
    (c.is_looked_at.ensures c.if-not-is_looked_at.false at bytes have)

pub returns : goal.returns
returns c = λ _ at bytes have.
    all_taken (IsFilled at bytes) c.args.fills.now c.loop-fill.fill-index c.loop-fill-test.false (c.loop-fill.invariant at bytes have)
