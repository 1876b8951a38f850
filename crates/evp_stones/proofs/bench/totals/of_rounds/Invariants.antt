use Rattle.std.proofs.Common.{◌≡◌, ◌*◌, ◌^◌, take}
use Rattle.evp_stones.specs.AccountTotals.{rounds_totals, IsWithin}
use Rattle.evp_stones.proofs.bench.totals.of_rounds.Given as goal

-- the totals of the rounds before this one
abbrev pub invariant-loop-round : goal.invariant-loop-round
invariant-loop-round l = record {
  made : l.totals ≡ rounds_totals (take l.round-index l.rounds);
  within : IsWithin (l.round-index * 2 ^ 64) l.totals;
}
