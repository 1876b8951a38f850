use Rattle.evp_stones.proofs.Numbered.{Through}
use Rattle.evp_stones.specs.Check.{declared_in}
use Rattle.evp_stones.proofs.check.put_declared.Given as goal

-- the formats before this one were handed on
abbrev pub invariant-loop-number : goal.invariant-loop-number
invariant-loop-number g l =
    Through g.K.Sink.faults g.K.Sink.put l.fn.sink l.sink l.fn.pieces l.pieces (declared_in l.fn.formats) l.fn.names l.number
