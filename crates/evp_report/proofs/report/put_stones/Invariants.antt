use Rattle.std.proofs.Common.{codes}
use Rattle.evp_report.proofs.Chains.{Through}
use Rattle.evp_report.specs.Report.{counted}
use Rattle.evp_report.proofs.report.put_stones.Given as goal

-- the stones before this one were handed on
abbrev pub invariant-loop-stone : goal.invariant-loop-stone
invariant-loop-stone g l =
    Through g.K.Sink.faults g.K.Sink.put l.fn.sink l.sink l.fn.pieces l.pieces (counted (codes ">")) l.fn.stones l.stone-index
