use Rattle.std.proofs.Common.{Some, None, refl}
use Rattle.evp_plan.proofs.FillLists.{sign_added}
use Rattle.evp_plan.proofs.cutting.push_positive.Goals as goal

pub returns : goal.returns
returns c =
    sign_added c.args.order c.args.words.now c.args.size c.args.below c.args.fills.now.items c.push_above.new.fills.items
    c.push.new.self.items (record { pick = None; sign = Some c.args.below }) c.in_ok-push_above.ensures c.in_ok-push.ensures.items refl refl
