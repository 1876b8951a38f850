use Rattle.std.proofs.Common.{take}
use Rattle.std.specs.List.{All}
use Rattle.evp_plan.specs.Laid.{IsBeside}
use Rattle.evp_plan.proofs.forms.are_beside.Given as goal

abbrev pub invariant-loop-number : goal.invariant-loop-number
invariant-loop-number l = All (IsBeside l.pointer) (take l.number-index l.numbers)
