use Rattle.std.proofs.Common.{◌≡◌, drop}
use Rattle.evp_format.specs.Drafts.{count_with_default}
use Rattle.evp_format.proofs.whole_type.count_with_default.Given as goal

abbrev pub invariant-loop-k : goal.invariant-loop-k
invariant-loop-k l = count_with_default l.fields l.k (drop l.k l.fields) ≡ count_with_default l.fields 0 l.fields
