use Rattle.std.proofs.Common.{◌≡◌, ◌+◌, ◌*◌, suc, length}
use Rattle.evp_plan.specs.Building.{IsTable}
use Rattle.evp_plan.proofs.table.add_rows.Given as goal

abbrev pub invariant-loop-row : goal.invariant-loop-row
invariant-loop-row l = IsTable l.from l.to l.table.items × (length l.table.items ≡ l.n * suc (length l.from.types) + l.row)
