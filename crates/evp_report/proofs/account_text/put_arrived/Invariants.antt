use Rattle.evp_report.specs.Report.{arrived_line}
use Rattle.evp_report.specs.Shown.{received}
use Rattle.evp_report.proofs.Chains.{Through}
use Rattle.evp_report.proofs.account_text.put_arrived.Given as goal

-- the lines before this one were handed on
abbrev pub invariant-loop-index : goal.invariant-loop-index
invariant-loop-index g l =
    Through g.K.Sink.faults g.K.Sink.put l.fn.sink l.sink l.fn.pieces l.pieces
    (λ item. arrived_line (received l.fn.formats item)) l.arrived l.index-index
