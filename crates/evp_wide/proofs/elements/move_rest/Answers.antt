use Rattle.std.proofs.Common.{◌≡◌, ◌*◌, length, take, sym, ap, ◌∙◌, arith}
use Rattle.std.proofs.Math.Seq.{take-length}
use Rattle.std.specs.List.{flat_map}
use Rattle.evp_wide.specs.Gathered.{gathered}
use Rattle.evp_wide.specs.Groups.{groups}
use Rattle.evp_wide.proofs.Blocks.{element_made, part_picked}
use Rattle.evp_wide.proofs.elements.move_rest.Goals as goal

pub loop-element-preserved : goal.loop-element-preserved
loop-element-preserved c =
    let m = c.args.mover.now in
    let out = c.loop-element.out in
    let element = c.loop-element.element in
    let long : length out ≡ c.args.number * m.out_size = let same = c.loop-element.auto.out in let is = c.requires.out in omega arith in
    let picked = part_picked out c.gather_few.new.out c.args.from.now m.mask m.out_size m.from_size m.count element c.args.number _ _
    long c.loop-element-test.true
    (omega arith) (omega arith) m.whole m.sixteen c.gather_few.ensures in
    element_made (gathered (take m.out_size m.mask)) out c.gather_few.new.out c.args.from.now m.out_size m.from_size element
    c.args.number _ long c.loop-element-test.true
    picked.0 picked.1 c.loop-element.invariant

pub returns : goal.returns
returns c =
    let m = c.args.mover.now in
    let f = gathered (take m.out_size m.mask) in
    let last : c.loop-element.element ≡ c.args.number = let end' = c.loop-element.auto.element-end in let done = c.requires.done in
    let stop = c.loop-element-test.false in omega arith in
    let long : length c.loop-element.out ≡ c.args.number * m.out_size = let same = c.loop-element.auto.out in let is = c.requires.out in
    omega arith in
    sym (take-length c.loop-element.out) ∙ ap (λ n. take n c.loop-element.out) (long ∙ ap (λ n. n * m.out_size) (sym last))
    ∙ c.loop-element.invariant ∙ ap (λ n. flat_map f (groups m.from_size n c.args.from.now)) last
