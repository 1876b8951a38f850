use Rattle.std.proofs.Common.{◌≡◌, ◌++◌, drop}
use Rattle.evp_format.specs.Converting.{made, then_make, numbers_from}
use Rattle.evp_format.specs.Tree.{branches_of, trees}
use Rattle.evp_format.specs.ValueView.{entries_of_pairs}
use Rattle.evp_value.proofs.numbers.receiver_numbers.Given as goal

-- the numbers so far, followed by those of the fields that are left, are all of them
abbrev pub invariant-loop-k : goal.invariant-loop-k
invariant-loop-k l =
    then_make (numbers_from l.place l.k (branches_of (trees l.format.types) (drop l.k l.fields)) (entries_of_pairs l.partner))
    (λ others none. made (l.numbers.items ++ others) none)
    ≡ numbers_from l.place 0 (branches_of (trees l.format.types) l.fields) (entries_of_pairs l.partner)
