use Rattle.std.proofs.Common.{◌≡◌, ℕ, length, sym, ap, arith, subst}
use Rattle.std.specs.Prelude.{replicate}
use Rattle.evp_base.specs.declared.order.Order.{Order}
use Rattle.evp_format.specs.Viewing.{Image}
use Rattle.evp_plan.specs.Laid.{IsLaidOf}
use Rattle.evp_plan.specs.Program.{programs, last_steps}
use Rattle.evp_record.specs.Record.{record_of}
use Rattle.evp_runner.specs.declared.sender.Sender.{Sender}
use Rattle.evp_runner.specs.Laying.{CanLayAll, all_moved}
use Rattle.evp_runner.specs.Pieces.{IsPut}
use Rattle.evp_runner.specs.Sizing.{image_by_eight}
use Rattle.evp_runner.specs.StepIn.{image_in}
use Rattle.evp_runner.proofs.LaidRecords.{can_lay_all, laid_converted}
use Rattle.evp_runner.proofs.Runs.{sent_order, sent_pointer, sent_room}
use Rattle.evp_runner.proofs.running.run_apart.Goals as goal

-- a record with pointers of 8 bytes by its order alone
by_eight : (sender : Sender) → sender.pointer ≡ 8 → image_in sender ≡ image_by_eight sender.order sender.bytes.now
by_eight sender eight = ap (λ (p : ℕ). record { order = sender.order; pointer = p; bytes = sender.bytes.now }) eight

pub lay-requires-clause-can : goal.lay-requires-clause-can
lay-requires-clause-can c =
    let plan = c.args.plan.now in
    let e = c.in-Some.ensures in
    let held = record_of c.args.format.now c.args.bytes.now in
    let sender = c.sender_by-sender.result in
    let image = image_in sender in
    let stands = c.requires.plan_from.stands in
    let to = c.requires.plan_from.to in
    let laid = c.in-Some.laid.now in
    let Can : Image → Type 0 = λ i. CanLayAll plan i laid (length c.args.out.now) in
    let room = sent_room plan held to image stands c.requires.held c.sender_by-sender.ensures in
    let reach = e.between.reach in
    subst Can (by_eight sender (sent_pointer plan held to image stands c.sender_by-sender.ensures e.between.from_eight))
    (can_lay_all plan held to image laid (length c.args.out.now) stands c.requires.held c.requires.size c.sender_by-sender.ensures
    e.ordered e.some
    (subst (λ (o : Order). IsLaidOf o plan.order (programs plan.table) (last_steps plan.table) laid)
    (sent_order plan held to image stands c.sender_by-sender.ensures) e.laid)
    e.between.fixed_is (omega (arith, room, reach)))

pub returns-then-lay : goal.returns-then-lay
returns-then-lay c =
    let e = c.in-Some.ensures in
    let held = record_of c.args.format.now c.args.bytes.now in
    let sender = c.sender_by-sender.result in
    let laid = c.in-Some.laid.now in
    let new = c.lay.new.out in
    let to = c.requires.plan_from.to in
    let stands = c.requires.plan_from.stands in
    let Put : Image → Type 0 = λ i. IsPut (all_moved c.args.plan.now i (length laid.numbers.cells)) (length new)
    (replicate (length new) 0) new in
    laid_converted c.args.plan.now held to (image_in sender) laid (length c.args.out.now) new stands c.requires.held c.requires.size
    c.sender_by-sender.ensures e.ordered e.some e.between.fixed_is c.lay.auto.out
    (subst Put (sym (by_eight sender (sent_pointer c.args.plan.now held to (image_in sender) stands c.sender_by-sender.ensures
    e.between.from_eight))) (c.lay.ensures c.if-lay.true))
