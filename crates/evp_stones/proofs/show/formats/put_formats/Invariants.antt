use Rattle.evp_stones.proofs.Numbered.{Through}
use Rattle.evp_stones.specs.Show.{format_lines}
use Rattle.evp_stones.proofs.show.formats.put_formats.Given as goal

-- the formats before this one were handed on
abbrev pub invariant-loop-number : goal.invariant-loop-number
invariant-loop-number g l =
    Through g.K.Sink.faults g.K.Sink.put l.fn.sink l.sink l.fn.pieces l.pieces format_lines l.fn.formats l.number
