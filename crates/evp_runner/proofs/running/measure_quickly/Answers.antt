use Rattle.std.proofs.Common.{◌∙◌}
use Rattle.evp_runner.proofs.Runs.{measured_value}
use Rattle.evp_runner.proofs.running.measure_quickly.Goals as goal

pub returns-clause-value : goal.returns-clause-value
returns-clause-value c = λ to stands. c.in_ok-size.ensures
    ∙ measured_value c.args.plan.now c.args.item.now to c.args.limit c.bytes-held.ensures.kept stands

pub returns-in-Some-clause-value : goal.returns-in-Some-clause-value
returns-in-Some-clause-value c = λ to stands. c.in-Some.ensures
    ∙ measured_value c.args.plan.now c.args.item.now to c.args.limit c.bytes-held.ensures.kept stands
