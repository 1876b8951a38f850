use Rattle.std.proofs.Common.{◌∙◌, arith}
use Rattle.evp_wide.proofs.SignedNumbers.{signed_one, signed_next}
use Rattle.evp_wide.proofs.numbers.put_four.Goals as goal

pub returns : goal.returns
returns c =
    let size = c.args.size in
    let width = c.args.width in
    let from = c.args.from.now in
    let to = c.args.to in
    let at = c.args.at in
    let out = c.args.out.now in
    let wide = c.requires.width in
    let allowed = c.requires.size in
    let inside = c.requires.from in
    let room = c.requires.out in
    let one = c.put_low.ensures
    ∙ signed_one size c.args.to_order from width c.args.from_order wide to at c.get_signed-one.result out allowed
    (omega (arith, inside)) c.get_signed-one.ensures in
    let two = c.put_low-2.ensures
    ∙ signed_next size c.args.to_order from width c.args.from_order wide to at 1 _ _ c.get_signed-two.result out c.put_low.new.out
    allowed (omega arith) (omega arith) (omega (arith, inside)) (omega (arith, room)) one c.get_signed-two.ensures in
    let three = c.put_low-3.ensures
    ∙ signed_next size c.args.to_order from width c.args.from_order wide to at 2 _ _ c.get_signed-three.result out c.put_low-2.new.out
    allowed (omega arith) (omega arith) (omega (arith, inside)) (omega (arith, room)) two c.get_signed-three.ensures in
    c.put_low-4.ensures
    ∙ signed_next size c.args.to_order from width c.args.from_order wide to at 3 _ _ c.get_signed-four.result out c.put_low-3.new.out
    allowed (omega arith) (omega arith) (omega (arith, inside)) (omega (arith, room)) three c.get_signed-four.ensures
