use Rattle.std.proofs.Common.{◌≡◌, ◌∙◌, rules}
use Rattle.evp_core.proofs.Ran.{ran_job}
use Rattle.evp_core_tests.proofs.tests.turns.behind.Goals as goal

pub returns-in-Ok : goal.returns-in-Ok
returns-in-Ok c =
    let opened : c.in_ok-world.world.lists.job ≡ c.args.job.now = search rules in
    ran_job c.in_ok-world.world c.run.new.self c.args.actors.now c.in-Ok.ensures.turned ∙ opened
