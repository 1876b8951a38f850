use Rattle.std.proofs.Common.{◌≡◌, ℕ, ◌+◌, ◌*◌, ◌∙◌, ap, sym, arith}
use Rattle.evp_format.proofs.Descriptions.{bytes_are}
use Rattle.evp_plan.specs.Cells.{gather_cells}
use Rattle.evp_plan.proofs.Each.{each_left, none_yet, no_more}
use Rattle.evp_plan.proofs.OneGather.{four_more}
use Rattle.evp_plan.proofs.running.run_fours.Goals as goal

pub loop-four-init : goal.loop-four-init
loop-four-init c = (
  none_yet c.args.from.now c.args.at.first c.args.at.apart (c.args.to.first + c.args.gather.now.to) c.args.to.apart
      (c.args.fours * 4) (gather_cells c.args.gather.now) c.args.out.now,
  λ k. omega (arith, c.type_inv.out k),
)

pub run_record-requires-clause-bytes : goal.run_record-requires-clause-bytes
run_record-requires-clause-bytes c = bytes_are c.loop-four.out c.loop-four.invariant.1

pub loop-four-preserved : goal.loop-four-preserved
loop-four-preserved c =
    let at = c.args.at in
    let to = c.args.to in
    let n = c.args.fours * 4 in
    let k = c.loop-four.four * 4 in
    let gather = c.args.gather.now in
    let cells = gather_cells gather in
    let below = c.loop-four-test.true in
    let next : (c.loop-four.four + 1) * 4 ≡ k + 4 = omega arith in
    let last = c.run_record-in-loop-four-3 in (
      ap (λ (i : ℕ). each_left c.args.from.now at.first at.apart (to.first + gather.to) to.apart n cells i last.new.out) next
          ∙ four_more c.args.from.now at.first at.apart to.first to.apart n k gather.to cells c.loop-four.out c.run_record.new.out
          c.run_record-in-loop-four.new.out c.run_record-in-loop-four-2.new.out last.new.out (omega (arith, below))
          c.run_record.ensures.made c.run_record-in-loop-four.ensures.made c.run_record-in-loop-four-2.ensures.made last.ensures.made
          ∙ c.loop-four.invariant.0,
      λ k. omega (arith, c.type_inv.out k),
    )

pub returns : goal.returns
returns c =
    let done = c.loop-four-test.false in
    sym (no_more c.args.from.now c.args.at.first c.args.at.apart (c.args.to.first + c.args.gather.now.to) c.args.to.apart (c.args.fours * 4)
    (gather_cells c.args.gather.now) (c.loop-four.four * 4) c.loop-four.out (omega (arith, done)))
    ∙ c.loop-four.invariant.0
