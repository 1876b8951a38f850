use Rattle.std.proofs.Common.{◌≡◌, List, Option, IfSome, Vec, Global, length, sym, subst, ◌∙◌, arith}
use Rattle.evp_base.specs.declared.order.Order.{Order}
use Rattle.evp_plan.specs.declared.block.Block.{Block}
use Rattle.evp_plan.specs.declared.step.Step.{Step}
use Rattle.evp_plan.specs.Cells.{Moving}
use Rattle.evp_plan.specs.Laid.{AreApart, AreBlocksOf, AreCellsOf}
use Rattle.evp_plan.proofs.LaidSteps.{laid_is}
use Rattle.evp_plan.proofs.Tables.{root_length}
use Rattle.evp_plan.proofs.laid.Laid.of_steps.Goals as goal

pub returns : goal.returns
returns c =
    let from = c.args.from.now in
    let to = c.args.to.now in
    let numbers = c.in_ok-singles.singles.items in
    let others = c.in_ok-others.others.items in
    let moves = c.in-Some-2.numbers in
    let blocks = c.in-Some.blocks.items in
    let Made : Option (Vec Block Global) → Type 0 = λ made. IfSome made (λ v. AreBlocksOf v.items c.as_slice-2.result.now) in
    let are = subst (λ (l : List Step). AreBlocksOf blocks l) c.as_slice-2.ensures.value (subst Made c.in-Some.is c.in_ok-blocks.ensures) in
    let apart = subst (λ (l : List Step). AreApart others l) c.as_slice-else-is_empty.ensures.value
    (subst (λ (l : List Step). AreApart l c.as_slice-else-is_empty.result.now) c.as_slice.ensures.value
    (c.are_apart.ensures c.if-not-are_apart.false)) in
    let Cells : Order → Order → List Step → Type 0 = λ a b l. AreCellsOf a b l moves.cells in
    let Some_cells : Option Moving → Type 0 = λ made. IfSome made
    (λ m. AreCellsOf c.order-sender.result c.order-order.result c.as_slice-singles.result.now m.cells) in
    let cells = subst (λ (l : List Step). Cells from.order to.order l) c.as_slice-singles.ensures.value
    (subst (λ (o : Order). Cells o to.order c.as_slice-singles.result.now) c.order-sender.ensures
    (subst (λ (o : Order). Cells c.order-sender.result o c.as_slice-singles.result.now) c.order-order.ensures
    (subst Some_cells c.in-Some-2.is c.in_ok-numbers.ensures.cells))) in
    let Long : Option Moving → Type 0 = λ made. IfSome made (λ m. length m.cells ≡ c.root.result.now.length) in
    let long = subst Long c.in-Some-2.is c.in_ok-numbers.ensures.length in (
      laid_is from.order to.order c.args.steps.now c.args.tests.now others numbers moves blocks c.in_ok-singles.ensures
          c.in_ok-others.ensures are apart (c.have_no_number.ensures c.if-not-have_no_number.false) cells,
      record {
        reach = (let wide = root_length from c.root-2.result.now c.root-2.ensures.laid c.root-2.ensures.value in
            let near = c.if-reach-room.false in
            let is = c.reach.ensures in
            omega (arith, wide, near, is));
        fixed_is = long ∙ root_length to c.root.result.now c.root.ensures.laid c.root.ensures.value;
        from_eight = sym c.pointer.ensures ∙ c.if-pointer-ne8.false;
        eight = sym c.pointer-else-pointer-ne8.ensures ∙ c.if-pointer-ne8-2.false;
        few = (let few = c.if-len-gt-MOST_BLOCKS.false in let is = c.len.ensures in omega (arith, few, is));
      },
    )
