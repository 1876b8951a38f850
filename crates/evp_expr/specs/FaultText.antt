-- The text of a fault.
use Rattle.std.specs.Prelude.{ℕ, List, ◌++◌, codes}
use Rattle.std.specs.Fmt.{decimal}
use Rattle.evp_expr.specs.declared.fault.ExprFault.{ExprFault}
use Rattle.evp_expr.specs.declared.fault.ExprFault.TheVariants as fault

abbrev pub fault_text : ExprFault → List ℕ
fault_text (fault.Token at) = codes "token at " ++ decimal at
fault_text (fault.Unexpected at) = codes "unexpected at " ++ decimal at
fault_text (fault.Deep at) = codes "deep at " ++ decimal at
fault_text fault.Long = codes "long"
fault_text (fault.Literal at) = codes "literal at " ++ decimal at
fault_text fault.Memory = codes "memory"
