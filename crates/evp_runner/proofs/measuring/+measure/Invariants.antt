use Rattle.std.proofs.Common.{◌≡◌, ◌+◌, ◌*◌, ◌-◌, ◌<◌, ◌^◌, drop}
use Rattle.evp_plan.specs.Measuring.{measured_elements}
use Rattle.evp_runner.specs.StepIn.{image_in}
use Rattle.evp_runner.proofs.Measured.{rest_made, element_made}
use Rattle.evp_runner.proofs.measuring.+measure.Given as goal

abbrev pub decreases-measure_record : goal.decreases-measure_record
decreases-measure_record l = 8 * l.number + 7

abbrev pub decreases-measure_step : goal.decreases-measure_step
decreases-measure_step l = 8 * l.number + 6

abbrev pub decreases-measure_each : goal.decreases-measure_each
decreases-measure_each l = 8 * l.number + 5

abbrev pub decreases-measure_many : goal.decreases-measure_many
decreases-measure_many l = 8 * l.number + 5

abbrev pub decreases-measure_run : goal.decreases-measure_run
decreases-measure_run l = 8 * l.number + 4

abbrev pub decreases-measure_part : goal.decreases-measure_part
decreases-measure_part l = 8 * l.number + 2

abbrev pub decreases-measure_inside : goal.decreases-measure_inside
decreases-measure_inside l = 8 * l.number + 1

abbrev pub invariant-measure_record-loop-step : goal.invariant-measure_record-loop-step
invariant-measure_record-loop-step l =
    (l.size < 2 ^ 32)
    × (rest_made l.measure.plan.now l.measure.limit (image_in l.measure.sender) l.place l.at (drop l.step-index l.steps) l.size
    ≡ rest_made l.measure.plan.now l.measure.limit (image_in l.measure.sender) l.place l.at l.steps l.initial.size)

abbrev pub decreases-measure_elements : goal.decreases-measure_elements
decreases-measure_elements l = 8 * l.number + 3

abbrev pub invariant-measure_elements-loop-k : goal.invariant-measure_elements-loop-k
invariant-measure_elements-loop-k l =
    (l.size < 2 ^ 32)
    × (measured_elements (element_made l.measure.plan.now l.measure.limit (image_in l.measure.sender) l.step l.part l.place l.at l.run)
    (l.n - l.k) l.k l.size
    ≡ measured_elements (element_made l.measure.plan.now l.measure.limit (image_in l.measure.sender) l.step l.part l.place l.at l.run) l.n 0
    l.initial.size)
