use Rattle.std.proofs.Common.{ℕ, sym, subst}
use Rattle.evp_stone.specs.Feeding.{HasFed}
use Rattle.evp_stone.proofs.FirstRoute.{first_there, opens}
use Rattle.evp_stone.proofs.feeder.Feeder.new.Goals as goal

pub returns-clause-state : goal.returns-clause-state
returns-clause-state c = λ given count.
    let job = c.args.job.now in
    let number = c.number_along.result in
    subst (λ (n : ℕ). HasFed job given (record {
      source = c.args.source;
      route = number;
      given = 0;
      round = 0;
      left = n;
      index = 0;
    })) (sym c.submitted.ensures) (opens job c.parts-kept.ensures.kept c.args.source number c.requires c.number_along.ensures given count)

pub number_along-requires : goal.number_along-requires
number_along-requires c = first_there c.args.job.now c.parts-kept.ensures.kept c.args.source c.requires
