use Rattle.std.proofs.Common.{◌≡◌, drop}
use Rattle.std.specs.List.{list_all}
use Rattle.evp_plan.specs.Cells.{steps_over, is_plain_op}
use Rattle.evp_plan.proofs.compiling.lay_steps.Given as goal

abbrev pub invariant-loop-step : goal.invariant-loop-step
invariant-loop-step l =
    (steps_over l.order l.from (drop l.step-index l.steps) l.cells ≡ steps_over l.order l.from l.steps l.initial.cells)
    × (list_all (λ step. is_plain_op step.task.op) (drop l.step-index l.steps) ≡ list_all (λ step. is_plain_op step.task.op) l.steps)
