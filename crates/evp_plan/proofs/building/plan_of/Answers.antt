use Rattle.std.proofs.Common.{◌≡◌, sym, subst, refl}
use Rattle.std.proofs.lemmas.Result.{IfOk-weaker}
use Rattle.evp_plan.specs.Planned.{Planned, planned_of, StandsFor}
use Rattle.evp_plan.proofs.Meaning.{stands}
use Rattle.evp_plan.proofs.Tables.{whole_compiled, some_lists}
use Rattle.evp_plan.proofs.building.plan_of.Goals as goal

pub new-requires-clause-some : goal.new-requires-clause-some
new-requires-clause-some c = some_lists c.args.from.now c.args.to.now c.in_ok-table.table.items c.types-receiver.ensures.laid
    c.in_ok-table.ensures.whole

pub returns : goal.returns
returns c =
    let from = c.args.from.now in
    let to = c.args.to.now in
    let table = c.in_ok-table.table.items in
    let plan = planned_of from to table c.eq-alike.result in
    let compiled = whole_compiled from to table c.types-sender.ensures.laid c.types-receiver.ensures.laid c.in_ok-table.ensures.table
    c.in_ok-table.ensures.whole in
    let P : Planned → Type 0 = λ p. StandsFor p from to in
    let meant : StandsFor plan from to =
    stands plan from to c.types-sender.ensures.laid c.types-receiver.ensures.laid c.requires c.eq-alike.ensures.same
    (record { machine = refl; fixed = refl; program = compiled; sender = refl; room = refl }) in
    IfOk-weaker c.new.result (λ p. p ≡ plan) P (λ p is. subst P (sym is) meant) c.new.ensures
