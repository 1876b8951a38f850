use Rattle.std.proofs.Common.{◌≡◌, ◌+◌, ◌*◌, take}
use Rattle.evp_format.specs.Datum.{copies}
use Rattle.evp_format.specs.Tree.{trees, part_of}
use Rattle.evp_format.specs.ValueView.{elements_of_values}
use Rattle.evp_format.specs.Zero.{zero_part}
use Rattle.evp_value.proofs.Zeros.{seen_pairs, zero_pairs}
use Rattle.evp_value.proofs.zero.+zero.Given as goal

abbrev pub decreases-zero_record : goal.decreases-zero_record
decreases-zero_record l = 4 * l.type_number + 3

abbrev pub decreases-zero_field : goal.decreases-zero_field
decreases-zero_field l = 4 * l.type_number + 2

abbrev pub decreases-zero_elements : goal.decreases-zero_elements
decreases-zero_elements l = 4 * l.type_number + 1

abbrev pub decreases-zero_element : goal.decreases-zero_element
decreases-zero_element l = 4 * l.type_number

abbrev pub invariant-zero_elements-loop : goal.invariant-zero_elements-loop
invariant-zero_elements-loop l = elements_of_values l.values.items
    ≡ copies l.counter (zero_part (part_of (trees l.format.types) l.field.base))

abbrev pub invariant-zero_record-loop-field : goal.invariant-zero_record-loop-field
invariant-zero_record-loop-field l = seen_pairs l.pairs.items ≡ zero_pairs (trees l.format.types) (take l.field-index l.fields)
