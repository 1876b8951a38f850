use Rattle.std.proofs.Common.{map}
use Rattle.evp_stone.specs.Settling.{work_of}
use Rattle.evp_stone.proofs.Started.{StartingSoFar}
use Rattle.evp_stone.proofs.opening.starting.Given as goal

abbrev pub invariant-loop-number : goal.invariant-loop-number
invariant-loop-number l = StartingSoFar l.job l.stone l.number (map work_of l.works.items)
