use Rattle.std.proofs.Common.{◌+◌, ◌*◌, ◌++◌, codes}
use Rattle.evp_format.specs.ValueText.{value_text}
use Rattle.evp_record.specs.Spots.{part_at, value_at}
use Rattle.evp_record.proofs.Entries.{entries_in, elements_in}
use Rattle.evp_report.specs.FieldText.{part_text}
use Rattle.evp_report.proofs.ElementsLeft.{elements_left}
use Rattle.evp_report.proofs.FieldsLeft.{fields_left}
use Rattle.evp_report.proofs.Passed.{SoFar}
use Rattle.evp_report.proofs.value.+value.Given as goal

abbrev pub decreases-put_record : goal.decreases-put_record
decreases-put_record g l = 8 * l.spot.type_number + 7

abbrev pub decreases-put_field : goal.decreases-put_field
decreases-put_field g l = 8 * l.part.spot.type_number + 6

abbrev pub decreases-put_single : goal.decreases-put_single
decreases-put_single g l = 8 * l.part.spot.type_number + 5

abbrev pub decreases-put_list : goal.decreases-put_list
decreases-put_list g l = 8 * l.part.spot.type_number + 5

abbrev pub decreases-put_element : goal.decreases-put_element
decreases-put_element g l = 8 * l.part.spot.type_number + 4

-- the fields from here on, and the last brace, are left
abbrev pub invariant-put_record-loop-index : goal.invariant-put_record-loop-index
invariant-put_record-loop-index g l =
    SoFar g.K.Sink.faults g.K.Sink.put l.fn.sink l.sink l.fn.pieces l.pieces
    (fields_left l.index (entries_in (value_at l.item l.spot)) ++ codes "}")
    (value_text (value_at l.item l.spot))

-- the elements from here on, and the last bracket, are left
abbrev pub invariant-put_list-loop-k : goal.invariant-put_list-loop-k
invariant-put_list-loop-k g l =
    SoFar g.K.Sink.faults g.K.Sink.put l.fn.sink l.sink l.fn.pieces l.pieces
    (elements_left l.k (elements_in (part_at l.item l.part.spot l.part.index)) ++ codes "]")
    (part_text l.item l.part.spot l.part.index)
