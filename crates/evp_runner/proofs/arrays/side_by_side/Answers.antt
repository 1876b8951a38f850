use Rattle.std.proofs.Common.{◌*◌, refl, arith}
use Rattle.evp_runner.specs.StepIn.{image_in}
use Rattle.evp_runner.proofs.SideBySide.{side_there, side_is}
use Rattle.evp_runner.proofs.arrays.side_by_side.Goals as goal

pub overflow_mul-count : goal.overflow_mul-count
overflow_mul-count c =
    let there = side_there (image_in c.args.work.now.sender) c.args.at c.args.n c.in-Number.width c.args.elements.now
    c.in-Some.run' c.in-Number.field-0 c.in-Number.kind c.in-Number.is c.in-Some.is c.requires.there c.requires.few
    c.if-run-width.false c.if-n-eq0.false in
    let within = there.within in
    omega (arith, within)

pub part_of-bytes-requires : goal.part_of-bytes-requires
part_of-bytes-requires c =
    let there = side_there (image_in c.args.work.now.sender) c.args.at c.args.n c.in-Number.width c.args.elements.now
    c.in-Some.run' c.in-Number.field-0 c.in-Number.kind c.in-Number.is c.in-Some.is c.requires.there c.requires.few
    c.if-run-width.false c.if-n-eq0.false in
    let within = there.within in
    let starts = c.start_of-start.ensures in
    omega (arith, within, starts)

pub returns : goal.returns
returns c =
    let there = side_there (image_in c.args.work.now.sender) c.args.at c.args.n c.in-Number.width c.args.elements.now
    c.in-Some.run' c.in-Number.field-0 c.in-Number.kind c.in-Number.is c.in-Some.is c.requires.there c.requires.few
    c.if-run-width.false c.if-n-eq0.false in
    side_is (image_in c.args.work.now.sender) c.args.at c.args.n c.in-Number.width c.start_of-start.result
    (c.args.n * c.in-Number.width) c.args.elements.now c.in-Some.run' c.in-Number.field-0 c.in-Number.kind c.part_of-bytes.result.now there
    c.in-Number.is c.in-Some.is c.if-run-width.false c.start_of-start.ensures refl c.part_of-bytes.ensures
