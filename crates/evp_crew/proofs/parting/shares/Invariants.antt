use Rattle.evp_crew.proofs.Parted.{SharesSoFar}
use Rattle.evp_crew.proofs.parting.shares.Given as goal

abbrev pub invariant-loop-stone : goal.invariant-loop-stone
invariant-loop-stone g l = SharesSoFar l.crew l.job l.actor l.stone l.rests l.shares.items
