use Rattle.std.proofs.Common.{◌≡◌, rules}
use Rattle.std.specs.Bool.{Decides}
use Rattle.std.proofs.lemmas.Bool.Decides.{same_from_decides}
use Rattle.evp_format.specs.Equality.{order_eq}
use Rattle.evp_format.specs.Equalities.{order_eq-Decides}
use Rattle.evp_format.proofs.format.same_order.Goals as goal

pub returns : goal.returns
returns c =
    let told : Decides c.eq.result (c.args.order ≡ c.args.other) = search rules in
    same_from_decides c.eq.result (order_eq c.args.order c.args.other) told (order_eq-Decides c.args.order c.args.other)
