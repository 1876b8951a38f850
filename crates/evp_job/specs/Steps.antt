-- Steps of which each may be refused: the first refusal is the answer, and its path grows by the
-- steps that lead to it.
use Rattle.std.specs.Prelude.{◌≡◌, ◌≢◌, ℕ, ◌+◌, Bool, true, false, List, [], ◌∷◌, ◌++◌, Result, Ok}
use Rattle.std.specs.Prelude.{Err}
use Rattle.evp_base.specs.declared.step.Step.{Step}
use Rattle.evp_base.specs.declared.step.Step.TheVariants.{Index}
use Rattle.serde_json.specs.Data.{Data}
use Rattle.evp_job.specs.declared.fault.JobFault.{JobFault}
use Rattle.evp_job.specs.declared.fault.JobFault.TheVariants as fault

infixl 10 ◌>>=◌
abbrev pub ◌>>=◌ : {A B : Type 0} → Result A JobFault → (A → Result B JobFault)
    → Result B JobFault
(Ok x) >>= f = f x
(Err cause) >>= f = Err cause

-- refused where the test fails
abbrev pub only_if : Bool → JobFault → Result (Unit {0}) JobFault
only_if true cause = Ok tt
only_if false cause = Err cause

-- the fault, where its path begins a step further in front
abbrev pub behind : Step → JobFault → JobFault
behind step (fault.Member path) = fault.Member (step ∷ path)
behind step (fault.Layout format cause) = fault.Layout format cause
behind step (fault.UnknownFormat path) = fault.UnknownFormat (step ∷ path)
behind step (fault.Expr stone k cause) = fault.Expr stone k cause
behind step (fault.Bind stone k cause) = fault.Bind stone k cause
behind step (fault.SetTarget stone k) = fault.SetTarget stone k
behind step (fault.Graph cause) = fault.Graph cause
behind step fault.Routes = fault.Routes
behind step (fault.Submit source asked held) = fault.Submit source asked held
behind step (fault.Carriage carried limit) = fault.Carriage carried limit
behind step (fault.Limit path number) = fault.Limit (step ∷ path) number
behind step (fault.RecordLength format) = fault.RecordLength format
behind step (fault.Twice path) = fault.Twice (step ∷ path)
behind step fault.Memory = fault.Memory

-- what is read a step further down
abbrev pub under : {A : Type 0} → Step → Result A JobFault → Result A JobFault
under step (Ok x) = Ok x
under step (Err cause) = Err (behind step cause)

-- what these values make, one behind another; k is the number of the first
abbrev pub all_from : {A X : Type 0} → (ℕ → A → X → Result A JobFault) → ℕ → A → List X
    → Result A JobFault
all_from step k done [] = Ok done
all_from step k done (value ∷ values) =
    step k done value >>= λ more. all_from step (k + 1) more values

-- value k behind those before it
abbrev pub one_more : {A : Type 0} → (Data → Result A JobFault) → ℕ → List A → Data
    → Result (List A) JobFault
one_more one k done value = under (Index k) (one value) >>= λ x. Ok (done ++ x ∷ [])

-- what each of these values is
abbrev pub each_in : {A : Type 0} → (Data → Result A JobFault) → List Data
    → Result (List A) JobFault
each_in one values = all_from (one_more one) 0 [] values

-- what a call answered, seen by a view, is what the definition says
abbrev pub Says : {X Y : Type 0} → (X → Y) → Result X JobFault → Result Y JobFault → Type 0
Says view (Ok x) said = said ≡ Ok (view x)
Says view (Err cause) said = said ≡ Err cause

-- the same, unless there was no memory
abbrev pub Gives : {X Y : Type 0} → (X → Y) → Result X JobFault → Result Y JobFault → Type 0
Gives view (Ok x) said = said ≡ Ok (view x)
Gives view (Err cause) said = cause ≢ fault.Memory → said ≡ Err cause
