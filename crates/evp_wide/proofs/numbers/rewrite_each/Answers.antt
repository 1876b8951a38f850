use Rattle.std.proofs.Common.{◌≡◌, ℕ, ◌+◌, ◌*◌, ◌-◌, ◌/◌, List, length, take, drop, ap, ◌∙◌, arith}
use Rattle.evp_base.specs.Numbers.{number, digits}
use Rattle.evp_base.proofs.Numbers.{length-digits}
use Rattle.evp_wide.proofs.Blocks.{element_made, element_long}
use Rattle.evp_wide.proofs.numbers.rewrite_each.Goals as goal

pub loop-element-preserved : goal.loop-element-preserved
loop-element-preserved c =
    let element = c.loop-element.element in
    let size = c.args.from_size in
    let to = c.args.out_size in
    let from = c.args.from.now in
    let one = λ (e : List ℕ). digits c.args.out_order to (number c.args.from_order c.args.kind e) in
    let long : length c.loop-element.out ≡ length from / size * to = let same = c.loop-element.auto.out in
    let is = c.requires.out in omega arith in
    let width : (element * size + size) - element * size ≡ size = omega arith in
    let room : (element * to + to) - element * to ≡ to = omega arith in
    let part : c.rewrite_number.new.out ≡ one (take size (drop (element * size) from)) =
    c.rewrite_number.ensures
    ∙ ap (λ k. digits c.args.out_order k (number c.args.from_order c.args.kind (take ((element * size + size) - element * size)
    (drop (element * size) from))))
    (element_long c.loop-element.out to element (length from / size) _ long c.loop-element-test.true room)
    ∙ ap (λ k. one (take k (drop (element * size) from))) width in
    element_made one c.loop-element.out c.rewrite_number.new.out from to size element (length from / size) _ long
    c.loop-element-test.true part
    (ap length part ∙ length-digits c.args.out_order to (number c.args.from_order c.args.kind (take size (drop (element * size) from))))
    c.loop-element.invariant
