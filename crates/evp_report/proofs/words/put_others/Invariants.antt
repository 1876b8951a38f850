use Rattle.evp_base.specs.Path.{joined_text}
use Rattle.evp_report.proofs.Chains.{Through}
use Rattle.evp_report.proofs.words.put_others.Given as goal

-- the steps before this one were handed on
abbrev pub invariant-loop-step : goal.invariant-loop-step
invariant-loop-step g l =
    Through g.K.Sink.faults g.K.Sink.put l.fn.sink l.sink l.fn.pieces l.pieces joined_text l.others l.step-index
