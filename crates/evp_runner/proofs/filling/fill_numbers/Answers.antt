use Rattle.std.proofs.Common.{length, arith}
use Rattle.evp_runner.specs.StepIn.{image_in}
use Rattle.evp_runner.proofs.Measured.{found_steps, at_index, own_index}
use Rattle.evp_runner.proofs.Filled.{array_can, only_filled}
use Rattle.evp_runner.proofs.filling.fill_numbers.Goals as goal

pub fill_array-requires-clause-can : goal.fill_array-requires-clause-can
fill_array-requires-clause-can c =
    let plan = c.args.work.now.plan.now in
    let steps = c.as_slice-steps.result.now in
    let found = found_steps plan c.args.number c.table.result.now c.index-table-number.result steps c.table.ensures.value c.requires.known
    c.index-table-number.is c.as_slice-steps.ensures in
    let array = array_can plan (image_in c.args.work.now.sender) c.args.number steps _ c.in-Each.count c.in-Each.elements
    (length c.args.out.now) c.table.ensures.ordered found (at_index steps 0 _ (omega (arith, c.if-steps-ne1.false))) c.in-Each.is
    c.requires.can in
    array.can

pub fill_array-requires-clause-room : goal.fill_array-requires-clause-room
fill_array-requires-clause-room c =
    let plan = c.args.work.now.plan.now in
    let steps = c.as_slice-steps.result.now in
    let found = found_steps plan c.args.number c.table.result.now c.index-table-number.result steps c.table.ensures.value c.requires.known
    c.index-table-number.is c.as_slice-steps.ensures in
    let array = array_can plan (image_in c.args.work.now.sender) c.args.number steps _ c.in-Each.count c.in-Each.elements
    (length c.args.out.now) c.table.ensures.ordered found (at_index steps 0 _ (omega (arith, c.if-steps-ne1.false))) c.in-Each.is
    c.requires.can in
    array.room

pub returns-in-Each-clause-filled : goal.returns-in-Each-clause-filled
returns-in-Each-clause-filled c = λ made.
    (let plan = c.args.work.now.plan.now in
    let steps = c.as_slice-steps.result.now in
    let found = found_steps plan c.args.number c.table.result.now c.index-table-number.result steps c.table.ensures.value c.requires.known
    c.index-table-number.is c.as_slice-steps.ensures in
    only_filled plan (image_in c.args.work.now.sender) c.args.number steps _ c.in-Each.count c.in-Each.elements c.fill_array.new.out
    c.table.ensures.ordered found (own_index steps 0 _ (omega (arith, c.if-steps-ne1.false))) c.if-steps-ne1.false c.in-Each.is
    (c.fill_array.ensures.filled made))
