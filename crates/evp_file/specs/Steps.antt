-- Steps of which each may be refused: the first refusal is the answer.
use Rattle.std.specs.Prelude.{◌≡◌, ◌≢◌, Bool, true, false, Result, Ok, Err}
use Rattle.evp_file.specs.declared.fault.FileFault.{FileFault}
use Rattle.evp_file.specs.declared.fault.FileFault.TheVariants.{Memory}

infixl 10 ◌>>=◌
abbrev pub ◌>>=◌ : {A B : Type 0} → Result A FileFault → (A → Result B FileFault)
    → Result B FileFault
(Ok x) >>= f = f x
(Err fault) >>= f = Err fault

-- refused where the test fails
abbrev pub only_if : Bool → FileFault → Result (Unit {0}) FileFault
only_if true fault = Ok tt
only_if false fault = Err fault

-- what a call answered, seen by a view, is what the definition says
abbrev pub Says : {X Y : Type 0} → (X → Y) → Result X FileFault → Result Y FileFault → Type 0
Says view (Ok x) said = said ≡ Ok (view x)
Says view (Err fault) said = said ≡ Err fault

-- the same, unless there was no memory
abbrev pub Gives : {X Y : Type 0} → (X → Y) → Result X FileFault → Result Y FileFault → Type 0
Gives view (Ok x) said = said ≡ Ok (view x)
Gives view (Err fault) said = fault ≢ Memory → said ≡ Err fault
