use Rattle.std.proofs.Common.{◌+◌, ◌≤◌}
use Rattle.std.specs.List.{All}
use Rattle.evp_plan.specs.declared.fill.Window.{Window}
use Rattle.evp_plan.proofs.windows.windows_for.Given as goal

abbrev pub invariant-loop : goal.invariant-loop
invariant-loop l = All (λ (window : Window). window.at + 16 ≤ l.reach) l.windows.items
