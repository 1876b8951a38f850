use Rattle.std.proofs.Common.{◌≡◌, ◌+◌, ◌-◌, ◌*◌, ◌≤◌, length}
use Rattle.evp_format.specs.Tree.{tree_of}
use Rattle.evp_format.specs.Viewing.{view_tree, image_of}
use Rattle.evp_record.specs.Marks.{marked}
use Rattle.evp_record.specs.Walks.{walk_elements}
use Rattle.evp_record.proofs.Marked.{walk_fields}
use Rattle.evp_format.proofs.LaidBases.{rank}
use Rattle.evp_record.proofs.walk.Walk.+walk.Given as goal

abbrev pub decreases-record : goal.decreases-record
decreases-record l = 8 * l.spot.type_number + 7

abbrev pub decreases-field : goal.decreases-field
decreases-field l = 8 * l.spot.type_number + 6

abbrev pub decreases-counted : goal.decreases-counted
decreases-counted l = 8 * l.spot.type_number + 5

abbrev pub decreases-elements : goal.decreases-elements
decreases-elements l = rank l.field.now.base + 1

abbrev pub decreases-part : goal.decreases-part
decreases-part l = rank l.field.now.base

-- the fields that are left, from the mark so far, go on as all of them do
abbrev pub invariant-record-loop-index : goal.invariant-record-loop-index
invariant-record-loop-index l =
    (marked (walk_fields l.self.format.now l.self.bytes.now l.spot l.place l.index l.mark)
    ≡ marked (view_tree (image_of l.self.format.now l.self.bytes.now) (tree_of l.self.format.now l.spot.type_number) l.spot.at l.place
    l.initial.mark))
    × (l.mark ≤ length l.self.bytes.now)

-- and so do the elements that are left
abbrev pub invariant-elements-loop-index : goal.invariant-elements-loop-index
invariant-elements-loop-index l =
    (marked (walk_elements l.self.format.now l.self.bytes.now l.field l.from l.place (l.count - l.index) l.index l.mark)
    ≡ marked (walk_elements l.self.format.now l.self.bytes.now l.field l.from l.place l.count 0 l.initial.mark))
    × (l.mark ≤ length l.self.bytes.now)
