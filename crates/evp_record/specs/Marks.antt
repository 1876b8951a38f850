-- The marks of a walk without the values: the mark behind what was read, or the first fault.
use Rattle.std.specs.Prelude.{ℕ, Result, Ok, Err}
use Rattle.evp_format.specs.declared.broken.Broken.{Broken}
use Rattle.evp_format.specs.Viewing.{Walked, read, broken}

abbrev pub marked : {A : Type 0} → Walked A → Result ℕ Broken
marked (read value mark) = Ok mark
marked (broken fault) = Err fault
