use Rattle.evp_report.proofs.Chains.{Through}
use Rattle.evp_report.specs.Report.{told_in, told_of}
use Rattle.evp_report.proofs.report.put_routes.Given as goal

-- the routes before this one were handed on
abbrev pub invariant-loop-number : goal.invariant-loop-number
invariant-loop-number g l =
    Through g.K.Sink.faults g.K.Sink.put l.fn.sink l.sink l.fn.pieces l.pieces (λ r. told_in l.fn.round (told_of l.fn.job r))
    l.fn.routes l.number
