-- Steps of which each may be refused: the first refusal is the answer.
use Rattle.std.specs.Prelude.{◌≡◌, ◌≢◌, ℕ, Result, Ok, Err, Option, Some, None}
use Rattle.evp_format.specs.declared.layout_fault.LayoutFault.{LayoutFault}
use Rattle.evp_format.specs.declared.layout_fault.LayoutFault.TheVariants.{Memory}

infixl 10 ◌>>=◌
abbrev pub ◌>>=◌ : {A B : Type 0} → Result A LayoutFault → (A → Result B LayoutFault)
    → Result B LayoutFault
(Ok x) >>= f = f x
(Err fault) >>= f = Err fault

-- what stands at an offset, tested: its value, and the offset behind it
abbrev pub tested : {A B : Type 0} → Result (A × ℕ) LayoutFault → (A → Result B LayoutFault)
    → Result (B × ℕ) LayoutFault
tested read test = read >>= λ x. test x.0 >>= λ y. Ok (y, x.1)

-- what a call answered, seen by a view, is what the definition says
abbrev pub Says : {X Y : Type 0} → (X → Y) → Result X LayoutFault → Result Y LayoutFault → Type 0
Says view (Ok x) said = said ≡ Ok (view x)
Says view (Err fault) said = said ≡ Err fault

-- the same, unless there was no memory: what a call answered is what the definition says, unless
-- there was no memory
abbrev pub Gives : {X Y : Type 0} → (X → Y) → Result X LayoutFault → Result Y LayoutFault → Type 0
Gives view (Ok x) said = said ≡ Ok (view x)
Gives view (Err fault) said = fault ≢ Memory → said ≡ Err fault

-- the fault, where there is one
abbrev pub fault_of : {A : Type 0} → Result A LayoutFault → Option LayoutFault
fault_of (Ok x) = None
fault_of (Err fault) = Some fault

-- a value, refused where there is a reason
abbrev pub refused_by : {A B : Type 0} → Option A → (A → LayoutFault) → B → Result B LayoutFault
refused_by None fault value = Ok value
refused_by (Some reason) fault value = Err (fault reason)
