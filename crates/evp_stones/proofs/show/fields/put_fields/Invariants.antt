use Rattle.evp_report.proofs.Chains.{Through}
use Rattle.evp_stones.specs.Show.{field_line}
use Rattle.evp_stones.proofs.show.fields.put_fields.Given as goal

-- the fields before this one were handed on
abbrev pub invariant-loop-field : goal.invariant-loop-field
invariant-loop-field g l =
    Through g.K.Sink.faults g.K.Sink.put l.fn.sink l.sink l.fn.pieces l.pieces (field_line l.fn.types l.fn.fields) l.fn.fields l.field-index
