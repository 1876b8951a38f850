use Rattle.std.proofs.Common.{◌∙◌, ap, arith}
use Rattle.evp_format.proofs.Descriptions.{bytes_are}
use Rattle.evp_plan.specs.declared.gather.Gather.{Gather}
use Rattle.evp_plan.proofs.Gathered.{one_gather, next_gather}
use Rattle.evp_plan.proofs.running.run_gathers.Goals as goal

pub loop-gather-preserved : goal.loop-gather-preserved
loop-gather-preserved c =
    let g = c.gather-item.result in
    let k = c.loop-gather.gather-index in
    let to = ap (λ (gather : Gather). gather.to) c.gather-item.is in
    let fits = c.requires.within k g c.loop-gather-test.true in
    let same = c.loop-gather.auto.out in (
      next_gather c.args.from.now c.args.at c.args.t k c.args.gathers.now g c.loop-gather.out c.run_gather.new.out c.loop-gather-test.true
          c.gather-item.is
          (one_gather c.args.from.now c.args.at c.args.t g c.loop-gather.out c.run_gather.new.out
          (bytes_are c.loop-gather.out c.loop-gather.invariant.1) (omega (arith, fits.1, to, same)) c.run_gather.ensures)
          ∙ c.loop-gather.invariant.0,
      λ k. omega (arith, c.type_inv.out k),
    )
