use Rattle.std.proofs.Common.{take}
use Rattle.evp_plan.specs.Laid.{AreApart}
use Rattle.evp_plan.proofs.forms.are_apart.Given as goal

abbrev pub invariant-loop-pointer : goal.invariant-loop-pointer
invariant-loop-pointer l = AreApart (take l.pointer-index l.pointers) l.numbers
