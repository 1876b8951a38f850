use Rattle.std.proofs.Common.{ℕ, List, ap, ◌∙◌}
use Rattle.evp_format.specs.Layout.{Layout}
use Rattle.evp_format.specs.Viewing.{image_of}
use Rattle.evp_plan.specs.Planned.{measured_whole}
use Rattle.evp_runner.specs.Outcome.{outcome}
use Rattle.evp_runner.proofs.Runs.{measured_value}
use Rattle.evp_runner.proofs.running.measure_fully.Goals as goal

pub returns-clause-value : goal.returns-clause-value
returns-clause-value c = λ to stands.
    let plan = c.args.plan.now in
    let held = c.args.item in
    c.measure_whole.ensures
    ∙ ap (λ (l : Layout). outcome (measured_whole plan (image_of l c.bytes.result.now) c.args.limit)) c.format.ensures.value
    ∙ ap (λ (b : List ℕ). outcome (measured_whole plan (image_of held.layout b) c.args.limit)) c.bytes.ensures.value
    ∙ measured_value plan held to c.args.limit c.bytes.ensures.kept stands
