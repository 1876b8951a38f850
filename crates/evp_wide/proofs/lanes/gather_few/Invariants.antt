use Rattle.std.proofs.Common.{◌≡◌, length, take}
use Rattle.evp_wide.specs.Gathered.{gathered}
use Rattle.evp_wide.proofs.lanes.gather_few.Given as goal

abbrev pub invariant-loop-k : goal.invariant-loop-k
invariant-loop-k l = (length l.out ≡ length l.initial.out) × (take l.k l.out ≡ gathered (take l.k l.mask) l.from)
