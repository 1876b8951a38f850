use Rattle.std.proofs.Common.{◌+◌, ◌-◌, ◌*◌, drop}
use Rattle.evp_plan.specs.Moving.{moved_elements}
use Rattle.evp_runner.specs.StepIn.{image_in}
use Rattle.evp_runner.proofs.Moved.{IsMoving, rest_moved, list_moved, element_one}
use Rattle.evp_runner.proofs.moving.+moving.Given as goal

abbrev pub decreases-move_record : goal.decreases-move_record
decreases-move_record l = 8 * l.number + 7

abbrev pub decreases-move_step : goal.decreases-move_step
decreases-move_step l = 8 * l.number + 6

abbrev pub decreases-move_many : goal.decreases-move_many
decreases-move_many l = 8 * l.number + 5

abbrev pub decreases-move_elements : goal.decreases-move_elements
decreases-move_elements l = 8 * l.number + 4

abbrev pub decreases-move_each : goal.decreases-move_each
decreases-move_each l = 8 * l.number + 3

abbrev pub decreases-move_part : goal.decreases-move_part
decreases-move_part l = 8 * l.number + 2

abbrev pub decreases-move_inside : goal.decreases-move_inside
decreases-move_inside l = 8 * l.number + 1

abbrev pub invariant-move_record-loop-step : goal.invariant-move_record-loop-step
invariant-move_record-loop-step l =
    IsMoving (rest_moved l.work.plan.now (image_in l.work.sender) (drop l.step-index l.steps) l.at l.t l.size)
    (rest_moved l.work.plan.now (image_in l.work.sender) l.steps l.at l.t l.initial.size) l.out l.initial.out

abbrev pub invariant-move_each-loop-k : goal.invariant-move_each-loop-k
invariant-move_each-loop-k l =
    IsMoving (moved_elements (element_one l.work.plan.now (image_in l.work.sender) l.step l.elements l.at l.base) (l.n - l.k) l.k l.size)
    (list_moved l.work.plan.now (image_in l.work.sender) l.step l.elements l.at l.base l.n l.initial.size)
    l.out l.initial.out
