use Rattle.evp_report.specs.Report.{refused_line}
use Rattle.evp_report.proofs.Chains.{Through}
use Rattle.evp_report.proofs.account_text.put_refused.Given as goal

-- the lines before this one were handed on
abbrev pub invariant-loop-index : goal.invariant-loop-index
invariant-loop-index g l =
    Through g.K.Sink.faults g.K.Sink.put l.fn.sink l.sink l.fn.pieces l.pieces
    refused_line l.refused l.index-index
