use Rattle.std.proofs.Common.{ℕ, ◌+◌, ◌*◌, ◌/◌, List, ◌∙◌, ap, sym, arith}
use Rattle.evp_format.proofs.Descriptions.{bytes_are}
use Rattle.evp_plan.specs.Cells.{gather_cells}
use Rattle.evp_plan.proofs.Each.{each_left, rest_of_all, no_more}
use Rattle.evp_plan.proofs.OneGather.{gather_more}
use Rattle.evp_plan.proofs.running.run_gather_each.Goals as goal

pub loop-k-init : goal.loop-k-init
loop-k-init c =
    let at = c.args.at in
    let to = c.args.to in
    let cells = gather_cells c.args.gather in
    let done = c.args.n / 4 * 4 in (
      ap (λ (out : List ℕ). each_left c.args.from.now at.first at.apart (to.first + c.args.gather.to) to.apart c.args.n cells done out)
          c.run_fours.ensures
          ∙ rest_of_all c.args.from.now at.first at.apart (to.first + c.args.gather.to) to.apart done c.args.n cells c.args.out.now
          (omega arith),
      λ k. omega (arith, c.type_inv.out k),
    )

pub run_record-requires-clause-bytes : goal.run_record-requires-clause-bytes
run_record-requires-clause-bytes c = bytes_are c.loop-k.out c.loop-k.invariant.1

pub loop-k-preserved : goal.loop-k-preserved
loop-k-preserved c = (
  gather_more c.args.from.now c.args.at.first c.args.at.apart c.args.to.first c.args.to.apart c.args.n c.loop-k.k c.args.gather.to
      (gather_cells c.args.gather) c.loop-k.out c.run_record.new.out c.loop-k-test.true c.run_record.ensures.made
      ∙ c.loop-k.invariant.0,
  λ k. omega (arith, c.type_inv.out k),
)

pub returns : goal.returns
returns c =
    sym (no_more c.args.from.now c.args.at.first c.args.at.apart (c.args.to.first + c.args.gather.to) c.args.to.apart c.args.n
    (gather_cells c.args.gather) c.loop-k.k c.loop-k.out c.loop-k-test.false)
    ∙ c.loop-k.invariant.0
