use Rattle.std.proofs.Common.{◌≡◌, ℕ, ◌-◌, List, length, refl, arith, subst}
use Rattle.std.specs.Prelude.{replicate}
use Rattle.evp_base.specs.declared.order.Order.{Order}
use Rattle.evp_format.specs.Layout.{Layout}
use Rattle.evp_plan.specs.Cells.{IsWholeOf}
use Rattle.evp_plan.specs.Planned.{Planned}
use Rattle.evp_plan.specs.Program.{last_steps}
use Rattle.evp_record.specs.Record.{Record, record_of}
use Rattle.evp_runner.specs.Running.{AreConverted}
use Rattle.evp_runner.specs.StepIn.{image_in}
use Rattle.evp_runner.proofs.Painting.{paints_all, all_reach, all_long, all_put}
use Rattle.evp_runner.proofs.Runs.{converted_whole, sent_order}
use Rattle.evp_runner.proofs.running.run_over.Goals as goal

-- what was made of a record's parts is made of the record
of_parts : (plan : Planned) (held : Record) (layout : Layout) (bytes new : List ℕ) → layout ≡ held.layout → bytes ≡ held.bytes
    → AreConverted plan (record_of layout bytes) new → AreConverted plan held new
of_parts plan held layout bytes new layout_is bytes_are made =
    let Layouts : Layout → Type 0 = λ l. AreConverted plan (record_of l bytes) new in
    let Bytes : List ℕ → Type 0 = λ b. AreConverted plan (record_of held.layout b) new in
    subst Bytes bytes_are (subst Layouts layout_is made)

pub run-requires-clause-reach : goal.run-requires-clause-reach
run-requires-clause-reach c =
    let plan = c.args.plan.now in
    let image = image_in c.sender_of-sender.result in
    let moves = c.in-Some.moves.now in
    let known = paints_all plan c.args.item c.requires.plan_from.to image moves c.requires.plan_from.stands c.bytes-held.ensures.kept
    c.sender_of-sender.ensures c.in-Some.ensures.ordered c.in-Some.ensures.some
    (subst (λ (o : Order). IsWholeOf o plan.order (last_steps plan.table) moves)
    (sent_order plan c.args.item c.requires.plan_from.to image c.requires.plan_from.stands c.sender_of-sender.ensures)
    c.in-Some.ensures.moves) in
    all_reach plan image moves known

pub run-requires-clause-room : goal.run-requires-clause-room
run-requires-clause-room c =
    let plan = c.args.plan.now in
    let image = image_in c.sender_of-sender.result in
    let moves = c.in-Some.moves.now in
    let known = paints_all plan c.args.item c.requires.plan_from.to image moves c.requires.plan_from.stands c.bytes-held.ensures.kept
    c.sender_of-sender.ensures c.in-Some.ensures.ordered c.in-Some.ensures.some
    (subst (λ (o : Order). IsWholeOf o plan.order (last_steps plan.table) moves)
    (sent_order plan c.args.item c.requires.plan_from.to image c.requires.plan_from.stands c.sender_of-sender.ensures)
    c.in-Some.ensures.moves) in
    let long = all_long plan c.args.item c.requires.plan_from.to image moves (length c.args.out.now) c.requires.plan_from.stands
    c.bytes-held.ensures.kept c.requires.size c.sender_of-sender.ensures known c.sender_of-sender.result.are c.in-Some.ensures.fixed in
    omega (arith, long)

pub returns-in-Some : goal.returns-in-Some
returns-in-Some c =
    let plan = c.args.plan.now in
    let image = image_in c.sender_of-sender.result in
    let moves = c.in-Some.moves.now in
    let out = c.args.out.now in
    let known = paints_all plan c.args.item c.requires.plan_from.to image moves c.requires.plan_from.stands c.bytes-held.ensures.kept
    c.sender_of-sender.ensures c.in-Some.ensures.ordered c.in-Some.ensures.some
    (subst (λ (o : Order). IsWholeOf o plan.order (last_steps plan.table) moves)
    (sent_order plan c.args.item c.requires.plan_from.to image c.requires.plan_from.stands c.sender_of-sender.ensures)
    c.in-Some.ensures.moves) in
    let long = all_long plan c.args.item c.requires.plan_from.to image moves (length out) c.requires.plan_from.stands
    c.bytes-held.ensures.kept c.requires.size c.sender_of-sender.ensures known c.sender_of-sender.result.are c.in-Some.ensures.fixed in
    let put = all_put plan image moves out c.run.new.out known c.sender_of-sender.result.are long c.run.ensures.made in
    converted_whole plan c.args.item c.requires.plan_from.to image (length plan.table - 1) plan.fixed (length out) _
    (replicate (length out) 0) c.run.new.out c.requires.plan_from.stands c.bytes-held.ensures.kept c.requires.size
    c.sender_of-sender.ensures refl refl refl put

pub returns : goal.returns
returns c = of_parts c.args.plan.now c.args.item c.format.result.now c.bytes.result.now c.run_apart.new.out
    c.format.ensures.value c.bytes.ensures.value c.run_apart.ensures
