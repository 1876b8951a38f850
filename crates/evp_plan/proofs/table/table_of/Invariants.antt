use Rattle.std.proofs.Common.{◌≡◌, ◌*◌, suc, length}
use Rattle.evp_plan.specs.Building.{IsTable}
use Rattle.evp_plan.proofs.table.table_of.Given as goal

abbrev pub invariant-loop-n : goal.invariant-loop-n
invariant-loop-n l = IsTable l.from l.to l.table.items × (length l.table.items ≡ l.n * suc (length l.from.types))
