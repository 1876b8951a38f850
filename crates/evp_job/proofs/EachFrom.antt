-- Values that are read one behind another, as a loop takes them.
use Rattle.std.proofs.Common.{◌≡◌, ℕ, ◌+◌, ◌<◌, ◌≤◌, List, [], ◌∷◌, ◌++◌, length, map, get_or, drop}
use Rattle.std.proofs.Common.{Result, Ok, Err, sym, ap, ◌∙◌}
use Rattle.std.specs.Prelude.{Option, unwrap_or}
use Rattle.std.proofs.lemmas.List.{at_drop_all}
use Rattle.std.proofs.lemmas.Option.{slice_get-get_or}
use Rattle.evp_base.specs.declared.step.Step.TheVariants.{Index}
use Rattle.evp_format.proofs.Loops.{next_left}
use Rattle.serde_json.specs.Data.{Data}
use Rattle.evp_job.specs.declared.fault.JobFault.{JobFault}
use Rattle.evp_job.specs.Steps.{◌>>=◌, under, all_from, one_more}

-- what is left, as it is seen
abbrev pub all_left : {A V X : Type 0} → (V → X) → (ℕ → A → X → Result A JobFault) → ℕ → A → List V
    → Result A JobFault
all_left see step k done values = all_from step k done (map see values)

-- what is read does not rest on what would be read past the end
pub at_default : {V : Type 0} (values : List V) (k : ℕ) (past : V) → k < length values
    → get_or values k past ≡ get_or values k (get_or values k past)
at_default values k past below =
    ap (λ (found : Option _). unwrap_or found past)
    (sym (slice_get-get_or values k past below) ∙ slice_get-get_or values k (get_or values k past) below)

-- ---- a value that is read, one that is refused, and the end

pub all_goes_on : {A V X : Type 0} (see : V → X) (step : ℕ → A → X → Result A JobFault)
    (values : List V) (k : ℕ) (value : V) (done more : A)
    (total : Result A JobFault) → k < length values → value ≡ get_or values k value
    → step k done (see value) ≡ Ok more
    → all_left see step k done (drop k values) ≡ total
    → all_left see step (k + 1) more (drop (k + 1) values) ≡ total
all_goes_on see step values k value done more total below is read so_far =
    let one : all_left see step k done (value ∷ drop (k + 1) values)
    ≡ all_left see step (k + 1) more (drop (k + 1) values) =
    ap (λ (r : Result _ JobFault). r >>= λ y. all_left see step (k + 1) y (drop (k + 1) values)) read in
    sym one ∙ sym (next_left (all_left see step k done) values k value below is) ∙ so_far

pub all_stops : {A V X : Type 0} (see : V → X) (step : ℕ → A → X → Result A JobFault)
    (values : List V) (k : ℕ) (value : V) (done : A)
    (cause : JobFault) (total : Result A JobFault) → k < length values
    → value ≡ get_or values k value
    → step k done (see value) ≡ Err cause → all_left see step k done (drop k values) ≡ total
    → total ≡ Err cause
all_stops see step values k value done cause total below is refused so_far =
    let one : all_left see step k done (value ∷ drop (k + 1) values) ≡ Err cause =
    ap (λ (r : Result _ JobFault). r >>= λ y. all_left see step (k + 1) y (drop (k + 1) values)) refused
    in
    sym so_far ∙ next_left (all_left see step k done) values k value below is ∙ one

pub all_end : {A V X : Type 0} (see : V → X) (step : ℕ → A → X → Result A JobFault)
    (values : List V) (k : ℕ) (done : A) (total : Result A JobFault)
    → length values ≤ k → all_left see step k done (drop k values) ≡ total → total ≡ Ok done
all_end see step values k done total past so_far = sym so_far
    ∙ at_drop_all (all_left see step k done) values k past

-- ---- values that don't rest on each other

pub more_is : {A : Type 0} (one : Data → Result A JobFault) (k : ℕ) (done : List A) (value : Data)
    (x : A)
    → under (Index k) (one value) ≡ Ok x → one_more one k done value ≡ Ok (done ++ x ∷ [])
more_is one k done value x read = ap (λ (r : Result _ JobFault). r >>= λ y. Ok (done ++ y ∷ []))
    read

pub more_fails : {A : Type 0} (one : Data → Result A JobFault) (k : ℕ) (done : List A)
    (value : Data) (cause : JobFault)
    → under (Index k) (one value) ≡ Err cause → one_more one k done value ≡ Err cause
more_fails one k done value cause refused = ap
    (λ (r : Result _ JobFault). r >>= λ y. Ok (done ++ y ∷ [])) refused
