use Rattle.std.proofs.Common.{◌≡◌, ℕ, length, ap, ◌∙◌, subst, arith}
use Rattle.evp_plan.specs.Cells.{Moving, painted_at}
use Rattle.evp_runner.specs.Laying.{CanLayAll}
use Rattle.evp_runner.specs.Sizing.{image_by_eight}
use Rattle.evp_runner.proofs.LaidLoop.{fixed_inside}
use Rattle.evp_runner.proofs.laying.lay.Goals as goal

pub run-requires-clause-room : goal.run-requires-clause-room
run-requires-clause-room c =
    let fixed = fixed_inside c.args.plan.now (image_by_eight c.args.order c.args.bytes.now) c.args.laid.now (length c.args.out.now)
    c.requires.can in
    let numbers = ap (λ (m : Moving). length m.cells) c.numbers-numbers.ensures in
    omega (arith, fixed, numbers)

pub lay_blocks-requires-clause-can : goal.lay_blocks-requires-clause-can
lay_blocks-requires-clause-can c =
    let long = c.run.auto.out in
    let same : length c.args.out.now ≡ length c.run.new.out = omega (arith, long) in
    let Can : ℕ → Type 0 = λ n. CanLayAll c.args.plan.now (image_by_eight c.args.order c.args.bytes.now) c.args.laid.now n in
    subst Can same c.requires.can

pub lay_blocks-requires-clause-made : goal.lay_blocks-requires-clause-made
lay_blocks-requires-clause-made c =
    let long = c.run.auto.out in
    record {
      over = c.args.out.now;
      long = omega (arith, long);
      made = c.run.ensures.made
          ∙ ap (λ (m : Moving). painted_at c.args.bytes.now 0 0 m.cells c.args.out.now) c.numbers-numbers.ensures;
    }
