use Rattle.evp_stone.proofs.outlet.push_to.Goals as goal

pub returns-in-All : goal.returns-in-All
returns-in-All c = rw c.in-All.is c.push_all.ensures
