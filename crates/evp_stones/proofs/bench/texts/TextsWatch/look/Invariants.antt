use Rattle.evp_stones.proofs.bench.texts.TextsWatch.look.Given as goal

-- nothing is asked of the places before this one
abbrev pub invariant-loop-place : goal.invariant-loop-place
invariant-loop-place g l = Unit {0}
