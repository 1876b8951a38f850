use Rattle.std.proofs.Common.{◌≡◌, drop}
use Rattle.evp_format.specs.Drafts.{first_overlap}
use Rattle.evp_format.proofs.whole_type.first_overlap.Given as goal

abbrev pub invariant-loop-k : goal.invariant-loop-k
invariant-loop-k l = first_overlap l.pointer l.k (drop l.k l.fields) ≡ first_overlap l.pointer 0 l.fields
