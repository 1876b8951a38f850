use Rattle.std.proofs.Common.{◌≡◌, ◌-◌, length, ap, ◌∙◌, arith}
use Rattle.std.specs.Prelude.{replicate}
use Rattle.evp_wide.proofs.Windows.{zeros_whole}
use Rattle.evp_wide.proofs.clearing.clear.Goals as goal

pub returns : goal.returns
returns c =
    let n = length c.args.out.now in
    let few = c.if-out-gt96.false in
    let one = c.clear_more-one.ensures in
    let two = c.clear_more-two.ensures in
    let three = c.clear_more-three.ensures in
    let four = c.clear_more-four.ensures in
    let five = c.clear_more-five.ensures in
    let six = c.clear_more-six.ensures in
    let by_one = one.more (n - 80) (omega arith) (omega (arith, few)) in
    let by_two = two.more (n - 64) (omega (arith, one.length)) (omega (arith, by_one)) in
    let by_three = three.more (n - 48) (omega (arith, one.length, two.length)) (omega (arith, by_two)) in
    let by_four = four.more (n - 32) (omega (arith, one.length, two.length, three.length)) (omega (arith, by_three)) in
    let by_five = five.more (n - 16) (omega (arith, one.length, two.length, three.length, four.length)) (omega (arith, by_four)) in
    let by_six = six.more n (omega (arith, one.length, two.length, three.length, four.length, five.length)) (omega (arith, by_five)) in
    let same : length c.clear_more-six.new.out ≡ n =
    omega (arith, one.length, two.length, three.length, four.length, five.length, six.length) in
    let whole : c.clear_more-six.result ≡ length c.clear_more-six.new.out = omega (arith, same, by_six, six.within) in
    zeros_whole c.clear_more-six.result c.clear_more-six.new.out whole six.front ∙ ap (λ m. replicate m 0) same
