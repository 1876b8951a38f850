use Rattle.std.proofs.Common.{◌≡◌, ◌*◌, ◌^◌, take}
use Rattle.evp_stones.specs.AccountTotals.{stone_of, IsWithin}
use Rattle.evp_stones.specs.Totals.{sums}
use Rattle.evp_stones.proofs.bench.totals.of_stones.Given as goal

-- the totals of the stones before this one
abbrev pub invariant-loop-account : goal.invariant-loop-account
invariant-loop-account l = record {
  made : l.totals ≡ sums stone_of (take l.account-index l.accounts);
  within : IsWithin (l.account-index * 2 ^ 80) l.totals;
}
