use Rattle.evp_report.proofs.Chains.{Through}
use Rattle.evp_stones.specs.Show.{type_lines}
use Rattle.evp_stones.proofs.show.formats.put_types.Given as goal

-- the types before this one were handed on
abbrev pub invariant-loop-record_type : goal.invariant-loop-record_type
invariant-loop-record_type g l =
    Through g.K.Sink.faults g.K.Sink.put l.fn.sink l.sink l.fn.pieces l.pieces (type_lines l.fn.types) l.fn.types l.record_type-index
