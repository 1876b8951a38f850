use Rattle.std.proofs.Common.{◌+◌, ◌*◌, length, drop}
use Rattle.evp_format.specs.ValueView.{elements_of_values, entries_of_pairs}
use Rattle.evp_format.specs.Tree.{tree_of, trees, branches_of, length_of}
use Rattle.evp_record.proofs.Remaining.{IsPackingList, IsPackingRecord}
use Rattle.evp_record.specs.Onto.{list_pieces, record_pieces}
use Rattle.evp_record.proofs.packing.+pack.Given as goal

abbrev pub decreases-pack_record : goal.decreases-pack_record
decreases-pack_record l = 5 * l.type_number + 4

abbrev pub decreases-pack_field : goal.decreases-pack_field
decreases-pack_field l = 5 * l.type_number + 3

abbrev pub decreases-pack_counted : goal.decreases-pack_counted
decreases-pack_counted l = 5 * l.type_number + 2

abbrev pub decreases-pack_elements : goal.decreases-pack_elements
decreases-pack_elements l = 5 * l.type_number + 1

abbrev pub decreases-pack_element : goal.decreases-pack_element
decreases-pack_element l = 5 * l.type_number

abbrev pub invariant-pack_elements-loop-k : goal.invariant-pack_elements-loop-k
invariant-pack_elements-loop-k l =
    IsPackingList l.format l.field l.at l.initial.out.items (list_pieces l.format l.field l.at (elements_of_values l.values) 0
    (length l.initial.out.items)) l.out.items l.k
    (elements_of_values (drop l.k l.values))

abbrev pub invariant-pack_record-loop-k : goal.invariant-pack_record-loop-k
invariant-pack_record-loop-k l =
    IsPackingRecord l.format l.at (length_of (tree_of l.format l.type_number)) (entries_of_pairs l.pairs) l.initial.out.items
    (record_pieces l.format l.type_number l.at (entries_of_pairs l.pairs) (length l.initial.out.items)) l.out.items
    (branches_of (trees l.format.types) (drop l.k l.fields))
    (entries_of_pairs (drop l.k l.pairs))
