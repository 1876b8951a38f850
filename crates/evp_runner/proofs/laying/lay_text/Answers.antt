use Rattle.std.proofs.Common.{◌≡◌, ◌∙◌, pos, length, ap, arith, rules}
use Rattle.evp_base.specs.Numbers.{digits}
use Rattle.evp_format.specs.Bytes.{put_at}
use Rattle.evp_plan.specs.declared.block.Block.TheVariants as block
use Rattle.evp_runner.specs.Laying.{AreLaid}
use Rattle.evp_runner.specs.StepIn.{image_in}
use Rattle.evp_runner.proofs.LaidBlocks.{laid_none, text_facts, text_put, null_put}
use Rattle.evp_runner.proofs.laying.lay_text.Goals as goal

pub aligned-q-requires : goal.aligned-q-requires
aligned-q-requires c =
    let facts = text_facts c.args.work.now.plan.now (image_in c.args.work.now.sender) c.args.order c.args.to_order c.args.text.now c.args.size
    (length c.args.out.now) c.requires.orders c.requires.can in
    let front = facts.front in
    search rules

pub put_text-requires-clause-inside : goal.put_text-requires-clause-inside
put_text-requires-clause-inside c = (text_facts c.args.work.now.plan.now (image_in c.args.work.now.sender) c.args.order c.args.to_order
    c.args.text.now c.args.size (length c.args.out.now) c.requires.orders c.requires.can).front

pub returns-in_default : goal.returns-in_default
returns-in_default c =
    let plan = c.args.work.now.plan.now in
    let image = image_in c.args.work.now.sender in
    let old = c.args.out.now in
    let new = c.lay_none.new.out in
    let kept = c.put_text.ensures.none c.in_default.is in
    let same = ap (put_at c.args.text.now.to (digits c.args.to_order 8 (pos 0))) kept in
    let long = c.lay_none.auto.out in
    let put_long = c.put_text.auto.out in
    laid_none (AreLaid plan image (block.Text c.args.text.now) c.args.size old new)
    (new ≡ put_at c.args.text.now.to (digits c.args.to_order 8 (pos 0)) c.put_text.new.out) c.eight_at-from.result c.args.size
    c.lay_none.result c.lay_none.ensures.null c.lay_none.ensures.other
    (λ none pointed can.
    null_put plan image c.args.order c.args.to_order c.args.text.now c.args.size c.eight_at-from.result old new c.requires.orders can
    c.eight_at-from.ensures none (omega (arith, long, put_long)) (pointed ∙ same))
    tt

pub returns : goal.returns
returns c = λ can.
    let out_long = c.put_text.auto.out in
    let point_long = c.point.auto.out in
    let some = c.in-Some.ensures.some in
    text_put c.args.work.now.plan.now (image_in c.args.work.now.sender) c.args.order c.args.to_order c.args.text.now c.args.size
    c.eight_at-from.result c.aligned-q.result c.in-Some.count c.args.out.now c.put_text.new.out c.point.new.out
    c.requires.orders can c.eight_at-from.ensures (λ none. omega (arith, none, some)) c.aligned-q.ensures c.in-Some.ensures.count
    c.in-Some.ensures.room out_long (omega (arith, out_long, point_long)) c.in-Some.ensures.front c.point.ensures
