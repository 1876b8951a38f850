use Rattle.std.proofs.Common.{◌∙◌, subst}
use Rattle.evp_core.proofs.Ran.{ran_job}
use Rattle.evp_stone.specs.WholeAccounts.{AreAccounts}
use Rattle.evp_stones.proofs.Worlds.{actors_are}
use Rattle.evp_stones.proofs.carried.accounts_of.Goals as goal

pub run-requires : goal.run-requires
run-requires c = rw (actors_are c.in_ok-world.world c.args.job.now c.in_ok-world.ensures.rules c.in_ok-world.ensures.job) c.requires

pub returns : goal.returns
returns c =
    subst (λ job. AreAccounts job c.accounts.result.items)
    (c.in_ok-finish.ensures.same.job ∙ ran_job _ _ c.args.turns.now c.in_ok-run.ensures.turned ∙ c.in_ok-world.ensures.job)
    c.accounts.ensures
