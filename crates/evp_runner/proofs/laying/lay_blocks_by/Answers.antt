use Rattle.std.proofs.Common.{List, length, ap, ◌∙◌, sym, refl, arith}
use Rattle.std.specs.Prelude.{slice_get}
use Rattle.evp_plan.specs.declared.block.Block.{Block}
use Rattle.evp_plan.specs.Cells.{Moving}
use Rattle.evp_runner.specs.StepIn.{image_in}
use Rattle.evp_runner.proofs.LaidLoop.{none_so_far, can_lay, one_so_far, all_laid}
use Rattle.evp_runner.proofs.Measured.{at_index}
use Rattle.evp_runner.proofs.laying.lay_blocks_by.Goals as goal

pub loop-block-init : goal.loop-block-init
loop-block-init c =
    let is = c.length-size.ensures ∙ ap (λ (m : Moving). length m.cells) c.numbers-numbers.ensures in
    none_so_far c.args.work.now.plan.now (image_in c.args.work.now.sender) c.args.laid.now c.length-size.result (length c.args.out.now)
    c.args.out.now c.requires.can is refl

pub lay_block-requires-clause-can : goal.lay_block-requires-clause-can
lay_block-requires-clause-can c =
    let is = c.length-size.ensures ∙ ap (λ (m : Moving). length m.cells) c.numbers-numbers.ensures in
    let k = c.loop-block.block-index in
    let long = c.loop-block.auto.out in
    let found = ap (λ (l : List Block). slice_get l k) c.blocks-block-items.ensures in
    can_lay c.args.work.now.plan.now (image_in c.args.work.now.sender) c.args.order c.args.to_order c.args.laid.now _ k
    c.length-size.result c.loop-block.size (length c.args.out.now) c.args.out.now c.loop-block.out c.requires.orders c.requires.can
    c.args.work.now.sender.are is (omega (arith, long))
    (sym found ∙ at_index c.blocks-block-items.result.now k _ c.loop-block-test.true) c.loop-block.invariant

pub loop-block-preserved : goal.loop-block-preserved
loop-block-preserved c =
    let is = c.length-size.ensures ∙ ap (λ (m : Moving). length m.cells) c.numbers-numbers.ensures in
    let k = c.loop-block.block-index in
    let long = c.loop-block.auto.out in
    let found = ap (λ (l : List Block). slice_get l k) c.blocks-block-items.ensures in
    one_so_far c.args.work.now.plan.now (image_in c.args.work.now.sender) c.args.order c.args.to_order c.args.laid.now _ k
    c.length-size.result c.loop-block.size c.in-Some.end (length c.args.out.now) c.args.out.now c.loop-block.out c.lay_block.new.out
    c.requires.orders c.requires.can c.args.work.now.sender.are is (omega (arith, long))
    (sym found ∙ at_index c.blocks-block-items.result.now k _ c.loop-block-test.true) c.loop-block.invariant c.in-Some.ensures

pub returns : goal.returns
returns c = λ yes.
    let is = c.length-size.ensures ∙ ap (λ (m : Moving). length m.cells) c.numbers-numbers.ensures in
    let k = c.loop-block.block-index in
    let long = c.loop-block.auto.out in
    let past = c.loop-block-test.false in
    let same = ap (λ (l : List Block). length l) c.blocks-block-items.ensures in
    let made = c.requires.made in
    all_laid c.args.work.now.plan.now (image_in c.args.work.now.sender) c.args.order c.args.to_order c.args.laid.now k
    c.length-size.result c.loop-block.size (length c.args.out.now) made.over c.args.out.now c.loop-block.out c.requires.orders
    c.requires.can c.args.work.now.sender.are is (omega (arith, long)) made.long (omega (arith, past, same)) made.made c.loop-block.invariant
