use Rattle.evp_stone.specs.Settling.{work_of}
use Rattle.evp_stone.proofs.ActedOn.{settled}
use Rattle.evp_stone.proofs.acting.act_on.Goals as goal

pub returns-clause-acted : goal.returns-clause-acted
returns-clause-acted c =
    settled c.args.shared.now.job.now c.args.stone (work_of c.args.work.now) (work_of c.settle.new.self) c.settle.new.waiting.items
    c.args.index
    c.args.owned.now c.in_ok-acted.acted c.in_ok-acted.ensures.performs c.in_ok-settle.ensures.settled
