use Rattle.std.proofs.Common.{◌+◌, List, ℕ, refl, ◌∙◌, ap, arith}
use Rattle.evp_plan.specs.Cells.{painted_at, gather_cells}
use Rattle.evp_plan.specs.declared.gather.Gather.{Gather}
use Rattle.evp_plan.proofs.FourLists.{placed}
use Rattle.evp_plan.proofs.running.run_four.Goals as goal

pub returns : goal.returns
returns c =
    let four = c.args.four.now in
    let from = c.args.from.now in
    let at = c.args.at in
    let t = c.args.t in
    let to = t + four.one.to in
    let begin = at + four.one.at in
    let room = c.requires.room in
    let to_two = four.to.0 in
    let to_three = four.to.1.0 in
    let to_four = four.to.1.1 in
    let at_two = four.at.0 in
    let at_three = four.at.1.0 in
    let at_four = four.at.1.1 in
    let same = c.run_plain.auto.out in
    let same' = c.run_plain-2.auto.out in
    let same'' = c.run_plain-3.auto.out in
    let done = λ (g : Gather) (out : List ℕ). painted_at from at (t + g.to) (gather_cells g) out in
    let one = placed from at t four.one to begin c.args.out.now c.run_plain.new.out c.requires.bytes refl refl (omega (arith, room))
    c.run_plain.ensures.made in
    let two = placed from at t four.two (to + 16) (begin + 16) c.run_plain.new.out c.run_plain-2.new.out c.run_plain.ensures.bytes
    (omega (arith, to_two)) (omega (arith, at_two)) (omega (arith, room, to_two, same)) c.run_plain-2.ensures.made in
    let three = placed from at t four.three (to + 32) (begin + 32) c.run_plain-2.new.out c.run_plain-3.new.out
    c.run_plain-2.ensures.bytes (omega (arith, to_three)) (omega (arith, at_three)) (omega (arith, room, to_three, same, same'))
    c.run_plain-3.ensures.made in
    let last = placed from at t four.four (to + 48) (begin + 48) c.run_plain-3.new.out c.run_plain-4.new.out
    c.run_plain-3.ensures.bytes (omega (arith, to_four)) (omega (arith, at_four)) (omega (arith, room, to_four, same, same', same''))
    c.run_plain-4.ensures.made in
    last ∙ ap (done four.four) (three ∙ ap (done four.three) (two ∙ ap (done four.two) one))
