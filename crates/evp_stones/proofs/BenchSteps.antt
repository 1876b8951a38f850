-- How steps that may be refused go on, where each makes something.
use Rattle.std.proofs.Common.{◌≡◌, ℕ, ◌+◌, Bool, true, List, [], ◌∷◌, ◌++◌, Result, Ok, refl, sym, ap, ◌∙◌, append-nil}
use Rattle.std.proofs.lemmas.List.{append_assoc}
use Rattle.evp_base.specs.declared.step.Step.{Step}
use Rattle.evp_base.specs.declared.step.Step.TheVariants.{Index}
use Rattle.serde_json.specs.Data.{Data}
use Rattle.evp_job.specs.declared.fault.JobFault.{JobFault}
use Rattle.evp_job.specs.Formats.{Named}
use Rattle.evp_job.specs.Expressions.{Reading}
use Rattle.evp_job.specs.Steps.{◌>>=◌, only_if, under, all_from, one_more}
use Rattle.evp_job.specs.Stones.{stone_in, next_stone}
use Rattle.evp_job.specs.TextShape.{StoneShape}

-- what follows a step that made this
pub then_is : {A B : Type 0} {r : Result A JobFault} {x : A} {y : Result B JobFault} (f : A → Result B JobFault)
    → r ≡ Ok x → f x ≡ y → (r >>= f) ≡ y
then_is f made rest = ap (λ r. r >>= f) made ∙ rest

-- a test that is passed
pub passes : {b : Bool} (cause : JobFault) → b ≡ true → only_if b cause ≡ Ok tt
passes cause test = ap (λ b. only_if b cause) test

-- what was read a step further down
pub under_is : {A : Type 0} {r : Result A JobFault} {x : A} (step : Step) → r ≡ Ok x → under step r ≡ Ok x
under_is step made = ap (under step) made

-- one value, and then those behind it
pub from_more : {A X : Type 0} (step : ℕ → A → X → Result A JobFault) (k : ℕ) (done more : A) (value : X) (values : List X)
    (y : Result A JobFault) → step k done value ≡ Ok more → all_from step (k + 1) more values ≡ y
    → all_from step k done (value ∷ values) ≡ y
from_more step k done more value values y made rest = ap (λ r. r >>= λ later. all_from step (k + 1) later values) made ∙ rest

-- these values are these stones, of which the first has this number
abbrev pub AreStonesFrom : Reading → Named → ℕ → List Data → List StoneShape → Type 0
AreStonesFrom reading formats k [] [] = Unit {0}
AreStonesFrom reading formats k [] (stone ∷ stones) = ⊥
AreStonesFrom reading formats k (value ∷ values) [] = ⊥
AreStonesFrom reading formats k (value ∷ values) (stone ∷ stones) =
    (stone_in reading formats k value ≡ Ok stone) × AreStonesFrom reading formats (k + 1) values stones

-- so they are the stones that are read
pub stones_from : (reading : Reading) (formats : Named) (k : ℕ) (done : List StoneShape) (values : List Data) (stones : List StoneShape)
    → AreStonesFrom reading formats k values stones → all_from (next_stone reading formats) k done values ≡ Ok (done ++ stones)
unfolding next_stone
stones_from reading formats k done [] [] are = ap Ok (sym (append-nil done))
stones_from reading formats k done [] (stone ∷ stones) are = absurd are
stones_from reading formats k done (value ∷ values) [] are = absurd are
stones_from reading formats k done (value ∷ values) (stone ∷ stones) are =
    from_more (next_stone reading formats) k done (done ++ stone ∷ []) value values (Ok (done ++ stone ∷ stones))
    (then_is _ (under_is (Index k) are.0) refl)
    (stones_from reading formats (k + 1) (done ++ stone ∷ []) values stones are.1
    ∙ ap Ok (append_assoc done (stone ∷ []) stones))

-- each of these values is the one of its place
abbrev pub Are : {A : Type 0} → (Data → Result A JobFault) → List Data → List A → Type 0
Are one [] [] = Unit {0}
Are one [] (x ∷ xs) = ⊥
Are one (value ∷ values) [] = ⊥
Are one (value ∷ values) (x ∷ xs) = (one value ≡ Ok x) × Are one values xs

-- so they are what is read
pub each_are : {A : Type 0} (one : Data → Result A JobFault) (k : ℕ) (done : List A) (values : List Data) (xs : List A) → Are one values xs
    → all_from (one_more one) k done values ≡ Ok (done ++ xs)
each_are one k done [] [] are = ap Ok (sym (append-nil done))
each_are one k done [] (x ∷ xs) are = absurd are
each_are one k done (value ∷ values) [] are = absurd are
each_are one k done (value ∷ values) (x ∷ xs) are =
    from_more (one_more one) k done (done ++ x ∷ []) value values (Ok (done ++ x ∷ xs)) (then_is _ (under_is (Index k) are.0) refl)
    (each_are one (k + 1) (done ++ x ∷ []) values xs are.1 ∙ ap Ok (append_assoc done (x ∷ []) xs))
