-- What a slow conversion tells of what a conversion answers.
use Rattle.std.specs.Prelude.{◌≡◌, ℕ, Result, Ok, Err, ⊤, ◌++◌, List, codes}
use Rattle.evp_base.specs.Path.{path_text}
use Rattle.evp_format.specs.Conversion.{Answer, clashes, converted, unfit_at, large_at}
use Rattle.evp_format.specs.declared.value.Value.{Value}
use Rattle.evp_format.specs.ValueView.{datum_of}
use Rattle.evp_value.specs.declared.slow_fault.SlowFault.{SlowFault}
use Rattle.evp_value.specs.declared.slow_fault.SlowFault.TheVariants.{Clash, Unfit, Large, Memory}

-- the fault is the answer; want of memory may come whatever the answer is
abbrev pub IsSlowFault : SlowFault → Answer → Type 0
IsSlowFault (Clash path) answer = answer ≡ clashes path
IsSlowFault (Unfit path) answer = answer ≡ unfit_at path
IsSlowFault (Large path) answer = answer ≡ large_at path
IsSlowFault Memory answer = ⊤

-- the value, of some packed size, or the fault
abbrev pub Tells : Result Value SlowFault → Answer → Type 0
Tells (Ok value) answer = (size : ℕ) × (answer ≡ converted (datum_of value) size)
Tells (Err fault) answer = IsSlowFault fault answer

-- the text of a fault: what it is, and the path
abbrev pub slow_fault_text : SlowFault → List ℕ
slow_fault_text (Clash path) = codes "clash " ++ path_text path
slow_fault_text (Unfit path) = codes "unfit " ++ path_text path
slow_fault_text (Large path) = codes "large " ++ path_text path
slow_fault_text Memory = codes "memory"
