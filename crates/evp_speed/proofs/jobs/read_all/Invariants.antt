use Rattle.std.proofs.Common.{All}
use Rattle.evp_file.specs.Whole.{IsWhole}
use Rattle.evp_speed.proofs.jobs.read_all.Given as goal

-- each file so far is whole
abbrev pub invariant-loop-bytes : goal.invariant-loop-bytes
invariant-loop-bytes l = All (IsWhole l.known) l.read.items
