use Rattle.std.proofs.Common.{ℕ, Some, refl, ap}
use Rattle.evp_plan.proofs.FillLists.{none_added, above_added, all_added}
use Rattle.evp_plan.proofs.cutting.push_above.Goals as goal

pub loop-k-init : goal.loop-k-init
loop-k-init c = none_added c.args.order c.args.words.now c.args.size c.args.sign c.args.fills.now.items

pub loop-k-preserved : goal.loop-k-preserved
loop-k-preserved c =
    above_added c.args.order c.args.words.now c.args.size c.args.sign c.loop-k.k c.args.fills.now.items c.loop-k.fills.items
    c.push.new.self.items (record { pick = Some c.place_of.result; sign = c.args.sign }) c.loop-k.invariant c.in_ok-push.ensures.items
    (ap (λ (n : ℕ). Some n) c.place_of.ensures) refl

pub returns : goal.returns
returns c =
    all_added c.args.order c.args.words.now c.args.size c.args.sign c.loop-k.k c.args.fills.now.items c.loop-k.fills.items
    c.loop-k.invariant c.loop-k-test.false
