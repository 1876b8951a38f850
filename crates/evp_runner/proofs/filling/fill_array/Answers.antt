use Rattle.std.proofs.Common.{◌∙◌, ℕ, ap, sym, arith}
use Rattle.evp_plan.specs.Moving.{moved_count}
use Rattle.evp_runner.specs.StepIn.{image_in}
use Rattle.evp_runner.proofs.Moved.{count_there, few_of}
use Rattle.evp_runner.proofs.SideBySide.{numbers_there, out_width, side_long}
use Rattle.evp_runner.proofs.Filled.{array_filled}
use Rattle.evp_runner.proofs.filling.fill_array.Goals as goal

pub moved_count-n-requires-clause-there : goal.moved_count-n-requires-clause-there
moved_count-n-requires-clause-there c =
    count_there c.args.work.now.plan.now (image_in c.args.work.now.sender) c.args.step.now c.args.elements.now 0 c.requires.can

pub side_by_side-requires-clause-few : goal.side_by_side-requires-clause-few
side_by_side-requires-clause-few c =
    let image = image_in c.args.work.now.sender in
    let run = c.args.elements.now.run in
    few_of image 0 c.args.count c.args.count run (sym c.from-2.ensures ∙ sym c.if-n-from.false ∙ c.moved_count-n.ensures
    ∙ ap (λ (w : ℕ). moved_count image 0 w run) c.from.ensures)

pub side_by_side-requires-clause-there : goal.side_by_side-requires-clause-there
side_by_side-requires-clause-there c =
    numbers_there c.args.work.now.plan.now (image_in c.args.work.now.sender) c.args.step.now c.args.elements.now 0 c.requires.can

pub put_numbers-requires-clause-width : goal.put_numbers-requires-clause-width
put_numbers-requires-clause-width c =
    let s = c.in-Some.ensures in
    out_width c.args.work.now.plan.now (image_in c.args.work.now.sender) c.args.step.now c.args.elements.now 0 c.args.count
    c.in-Some.numbers.width c.in-Some.numbers.kind c.in-Some.numbers.bytes.now s c.requires.can

pub put_numbers-requires-clause-whole : goal.put_numbers-requires-clause-whole
put_numbers-requires-clause-whole c =
    side_long (image_in c.args.work.now.sender) 0 c.args.count c.in-Some.numbers.width c.args.elements.now c.in-Some.numbers.kind
    c.in-Some.numbers.bytes.now c.in-Some.ensures

pub returns-clause-filled : goal.returns-clause-filled
returns-clause-filled c = λ made.
    (let plan = c.args.work.now.plan.now in
    let image = image_in c.args.work.now.sender in
    let step = c.args.step.now in
    let run = c.args.elements.now.run in
    let numbers = c.in-Some.numbers in
    let whole = c.if-count-step.false in
    let room = c.requires.room in
    array_filled plan image step c.args.elements.now c.args.count c.args.count numbers.width numbers.kind numbers.bytes.now c.args.out.now
    c.put_numbers.new.out
    (sym c.from-2.ensures ∙ sym c.if-n-from.false ∙ c.moved_count-n.ensures
    ∙ ap (λ (w : ℕ). moved_count image 0 w run) c.from.ensures)
    (omega (arith, room, whole)) whole c.in-Some.ensures c.put_numbers.ensures)
