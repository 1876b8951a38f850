use Rattle.std.proofs.Common.{◌≡◌, pos, length, arith}
use Rattle.evp_base.specs.Numbers.{digits}
use Rattle.evp_format.specs.Bytes.{put_at}
use Rattle.evp_plan.specs.declared.block.Block.TheVariants as block
use Rattle.evp_runner.specs.Laying.{AreLaid}
use Rattle.evp_runner.specs.StepIn.{image_in}
use Rattle.evp_runner.proofs.LaidBlocks.{array_facts, laid_none, none_put}
use Rattle.evp_runner.proofs.laying.lay_array.Goals as goal

pub lay_none-requires : goal.lay_none-requires
lay_none-requires c =
    let facts = array_facts c.args.work.now.plan.now (image_in c.args.work.now.sender) c.args.order c.args.to_order
    c.args.array.now c.args.size (length c.args.out.now) c.requires.orders c.requires.can in
    let to = facts.to in
    let front = facts.front in
    omega (arith, to, front)

pub returns-then-not-counts_some : goal.returns-then-not-counts_some
returns-then-not-counts_some c =
    let plan = c.args.work.now.plan.now in
    let image = image_in c.args.work.now.sender in
    let old = c.args.out.now in
    let new = c.lay_none.new.out in
    laid_none (AreLaid plan image (block.Array c.args.array.now) c.args.size old new)
    (new ≡ put_at c.args.array.now.to (digits c.args.to_order 8 (pos 0)) old) c.four_at-n.result c.args.size c.lay_none.result
    c.lay_none.ensures.null c.lay_none.ensures.other
    (λ none pointed can.
    none_put plan image c.args.order c.args.to_order c.args.array.now c.args.size c.four_at-n.result old new c.requires.orders can
    c.four_at-n.ensures none c.lay_none.auto.out pointed)
    tt
