use Rattle.std.proofs.Common.{◌≡◌, drop}
use Rattle.evp_job.specs.Stones.{named_from}
use Rattle.evp_job.proofs.naming.find.Given as goal

abbrev pub invariant-loop-k : goal.invariant-loop-k
invariant-loop-k l =
    named_from l.name 0 l.names l.known ≡ named_from l.name l.k (drop l.k l.names) (drop l.k l.known)
