use Rattle.std.proofs.Common.{◌≡◌, ◌+◌, ◌*◌, ◌≤◌, ℕ, length, ap, arith, rules}
use Rattle.evp_plan.specs.Laid.{width_of, size_of}
use Rattle.evp_runner.specs.StepIn.{image_in}
use Rattle.evp_runner.proofs.LaidBlocks.{array_facts, numbers_facts, numbers_put, pointer_is}
use Rattle.evp_runner.proofs.laying.lay_numbers.Goals as goal

pub put_block-requires-clause-from : goal.put_block-requires-clause-from
put_block-requires-clause-from c =
    let image = image_in c.args.work.now.sender in
    let array = c.args.array.now in
    let known = numbers_facts c.args.work.now.plan.now image c.args.order c.args.to_order array c.args.size c.args.n c.args.out.now
    c.requires.orders c.requires.can c.requires.count c.requires.small c.requires.some in
    let start = pointer_is image c.args.order array.from c.eight_at-s.result c.requires.orders.from c.requires.orders.from_pointer
    c.eight_at-s.ensures in
    let within = known.within in
    let total : c.args.n * c.args.width ≡ c.args.n * width_of array.form = ap (λ (w : ℕ). c.args.n * w) c.requires.width in
    omega (arith, start, within, total)

pub put_block-requires-clause-out : goal.put_block-requires-clause-out
put_block-requires-clause-out c =
    let array = c.args.array.now in
    let known = numbers_facts c.args.work.now.plan.now (image_in c.args.work.now.sender) c.args.order c.args.to_order array c.args.size
    c.args.n c.args.out.now c.requires.orders c.requires.can c.requires.count c.requires.small c.requires.some in
    let room = known.room in
    let total : c.args.n * c.args.to_size ≡ c.args.n * size_of array.form = ap (λ (w : ℕ). c.args.n * w) c.requires.size in
    omega (arith, room, total)

pub aligned-q-requires : goal.aligned-q-requires
aligned-q-requires c =
    let facts = array_facts c.args.work.now.plan.now (image_in c.args.work.now.sender) c.args.order c.args.to_order c.args.array.now
    c.args.size (length c.args.out.now) c.requires.orders c.requires.can in
    let front = facts.front in
    search rules

pub point-requires : goal.point-requires
point-requires c =
    let facts = array_facts c.args.work.now.plan.now (image_in c.args.work.now.sender) c.args.order c.args.to_order c.args.array.now
    c.args.size (length c.args.out.now) c.requires.orders c.requires.can in
    let front = facts.front in
    let to = facts.to in
    let same = c.put_block.auto.out in
    omega (arith, front, to, same)

pub overflow_add-result : goal.overflow_add-result
overflow_add-result c =
    let array = c.args.array.now in
    let known = numbers_facts c.args.work.now.plan.now (image_in c.args.work.now.sender) c.args.order c.args.to_order array c.args.size
    c.args.n c.args.out.now c.requires.orders c.requires.can c.requires.count c.requires.small c.requires.some in
    let room = known.room in
    let total : c.args.n * c.args.to_size ≡ c.args.n * size_of array.form = ap (λ (w : ℕ). c.args.n * w) c.requires.size in
    let place = c.aligned-q.ensures in
    let fits : c.aligned-q.result + c.args.n * c.args.to_size ≤ length c.args.out.now = omega (arith, room, total, place) in
    search rules

pub returns : goal.returns
returns c = λ can.
    let out_long = c.put_block.auto.out in
    let point_long = c.point.auto.out in
    numbers_put c.args.work.now.plan.now (image_in c.args.work.now.sender) c.args.order c.args.to_order c.args.array.now c.args.size
    c.eight_at-s.result c.aligned-q.result c.args.n c.args.width c.args.to_size c.args.out.now c.put_block.new.out c.point.new.out
    c.requires.orders can c.requires.count c.requires.small c.requires.some c.requires.width c.requires.size c.eight_at-s.ensures
    c.aligned-q.ensures out_long (omega (arith, out_long, point_long)) c.put_block.ensures c.point.ensures
