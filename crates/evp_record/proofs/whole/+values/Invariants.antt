use Rattle.std.proofs.Common.{◌≡◌, ◌+◌, ◌*◌}
use Rattle.evp_format.specs.ValueView.{elements_of_values, entries_of_pairs}
use Rattle.evp_record.specs.Spots.{part_at, value_at}
use Rattle.evp_record.proofs.Entries.{entries_in, entries_behind, joined, elements_in, elements_behind, linked}
use Rattle.evp_format.proofs.LaidBases.{rank}
use Rattle.evp_record.proofs.whole.+values.Given as goal

abbrev pub decreases-record_value : goal.decreases-record_value
decreases-record_value l = 8 * l.spot.type_number + 7

abbrev pub decreases-field_value : goal.decreases-field_value
decreases-field_value l = 8 * l.spot.type_number + 6

abbrev pub decreases-list_value : goal.decreases-list_value
decreases-list_value l = 8 * l.spot.type_number + 5

abbrev pub decreases-part_value : goal.decreases-part_value
decreases-part_value l = rank l.part.field.now.base

-- the pairs so far, followed by the entries from there on, are the record
abbrev pub invariant-record_value-loop-index : goal.invariant-record_value-loop-index
invariant-record_value-loop-index l =
    joined (entries_of_pairs l.pairs.items) (entries_behind l.index (entries_in (value_at l.item l.spot)))
    ≡ entries_in (value_at l.item l.spot)

-- the values so far, followed by the elements from there on, are the list
abbrev pub invariant-list_value-loop-k : goal.invariant-list_value-loop-k
invariant-list_value-loop-k l =
    linked (elements_of_values l.values.items) (elements_behind l.k (elements_in (part_at l.item l.spot l.index)))
    ≡ elements_in (part_at l.item l.spot l.index)
