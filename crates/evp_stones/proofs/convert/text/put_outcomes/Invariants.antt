use Rattle.evp_report.specs.Report.{numbered_line}
use Rattle.evp_stones.proofs.Numbered.{Through}
use Rattle.evp_stones.specs.Outcomes.{outcome_text}
use Rattle.evp_stones.proofs.convert.text.put_outcomes.Given as goal

-- the records before this one were handed on
abbrev pub invariant-loop-number : goal.invariant-loop-number
invariant-loop-number g l =
    Through g.K.Sink.faults g.K.Sink.put l.fn.sink l.sink l.fn.pieces l.pieces (λ k outcome. numbered_line k (outcome_text l.fn.to outcome))
    l.fn.outcomes l.number
