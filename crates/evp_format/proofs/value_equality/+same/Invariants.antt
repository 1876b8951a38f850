use Rattle.std.proofs.Common.{◌≡◌, drop}
use Rattle.evp_format.proofs.SameValues.{same_lists, same_fields}
use Rattle.evp_format.proofs.value_equality.+same.Given as goal

-- what is left settles the answer
abbrev pub invariant-same_elements-loop-k : goal.invariant-same_elements-loop-k
invariant-same_elements-loop-k l =
    same_lists (drop l.k l.values) (drop l.k l.others) ≡ same_lists l.values l.others

abbrev pub invariant-same_entries-loop-k : goal.invariant-same_entries-loop-k
invariant-same_entries-loop-k l =
    same_fields (drop l.k l.pairs) (drop l.k l.others) ≡ same_fields l.pairs l.others
