-- The texts of faults.
use Rattle.std.specs.Prelude.{ℕ, List, ◌++◌, codes}
use Rattle.std.specs.Fmt.{decimal}
use Rattle.evp_eval.specs.declared.fault.BindFault.{BindFault}
use Rattle.evp_eval.specs.declared.fault.BindFault.TheVariants as bind
use Rattle.evp_eval.specs.declared.fault.EvalFault.{EvalFault}
use Rattle.evp_eval.specs.declared.fault.EvalFault.TheVariants as eval

abbrev pub bind_text : BindFault → List ℕ
bind_text (bind.Unknown at) = codes "unknown at " ++ decimal at
bind_text (bind.NotNumber at) = codes "not a number at " ++ decimal at
bind_text (bind.NotList at) = codes "not a list at " ++ decimal at
bind_text (bind.NotText at) = codes "not a text at " ++ decimal at
bind_text bind.Memory = codes "memory"

abbrev pub eval_text : EvalFault → List ℕ
eval_text (eval.Overflow at) = codes "overflow at " ++ decimal at
eval_text (eval.ZeroDivide at) = codes "zero divide at " ++ decimal at
eval_text (eval.Index at) = codes "index at " ++ decimal at
