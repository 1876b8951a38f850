use Rattle.evp_runner.specs.StepIn.{image_in}
use Rattle.evp_runner.proofs.LaidLoop.{AreLaidSoFar}
use Rattle.evp_runner.proofs.laying.lay_blocks_by.Given as goal

abbrev pub invariant-loop-block : goal.invariant-loop-block
invariant-loop-block l =
    AreLaidSoFar l.work.plan.now (image_in l.work.sender) l.block-index l.initial.size l.size l.initial.out l.out
