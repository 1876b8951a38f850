use Rattle.std.proofs.Common.{◌≡◌, ◌+◌, drop}
use Rattle.evp_format.specs.Drafts.{overlap_with}
use Rattle.evp_format.proofs.whole_type.overlap_with.Given as goal

abbrev pub invariant-loop-k : goal.invariant-loop-k
invariant-loop-k l = overlap_with l.pointer l.field (l.number + l.k) (drop l.k l.others) ≡ overlap_with l.pointer l.field l.number l.others
