use Rattle.std.proofs.Common.{◌≡◌, length}
use Rattle.evp_cache.proofs.plan_cache.PlanCache.new.Given as goal

abbrev pub invariant-loop : goal.invariant-loop
invariant-loop l = length l.cells.items ≡ l.counter
