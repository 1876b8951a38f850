-- The program of a list of steps: it doesn't depend on later lists, and refers to the programs of the whole table.
use Rattle.std.proofs.Common.{◌≡◌, ℕ, zero, suc, ◌+◌, ◌<◌, ◌≤◌, List, [], ◌∷◌, ◌++◌, length, get_or, take, drop, Option, Some, None, refl}
use Rattle.std.proofs.Common.{sym, ap, ◌∙◌, arith, length-append}
use Rattle.std.specs.Prelude.{slice_get}
use Rattle.evp_plan.specs.declared.step.Step.{Step}
use Rattle.evp_plan.specs.Program.{Program, no_steps, performs, inner_program, program_of, programs_behind, programs, program_at, IsOrdered}

programs_behind-append : (earlier : List Program) (table more : List (List Step))
    → programs_behind earlier (table ++ more) ≡ programs_behind (programs_behind earlier table) more
programs_behind-append earlier [] more = refl
programs_behind-append earlier (steps ∷ table) more = programs_behind-append (earlier ++ program_of earlier steps ∷ []) table more

length-programs_behind : (earlier : List Program) (table : List (List Step))
    → length (programs_behind earlier table) ≡ length earlier + length table
length-programs_behind earlier [] = omega arith
length-programs_behind earlier (steps ∷ table) =
    let rest = length-programs_behind (earlier ++ program_of earlier steps ∷ []) table in
    let grown = length-append earlier (program_of earlier steps ∷ []) in
    omega (arith, rest, grown)

get_or-append_left : {A : Type 0} (xs ys : List A) (k : ℕ) (d : A) → k < length xs → get_or (xs ++ ys) k d ≡ get_or xs k d
get_or-append_left [] ys k d below = absurd (omega arith)
get_or-append_left (x ∷ xs) ys zero d below = refl
get_or-append_left (x ∷ xs) ys (suc k) d below = get_or-append_left xs ys k d (omega arith)

get_or-append_at : {A : Type 0} (xs ys : List A) (x : A) (d : A) → get_or (xs ++ x ∷ ys) (length xs) d ≡ x
get_or-append_at [] ys x d = refl
get_or-append_at (y ∷ xs) ys x d = get_or-append_at xs ys x d

get_or-behind : (earlier : List Program) (table : List (List Step)) (k : ℕ) (d : Program) → k < length earlier
    → get_or (programs_behind earlier table) k d ≡ get_or earlier k d
get_or-behind earlier [] k d below = refl
get_or-behind earlier (steps ∷ table) k d below =
    let grown = length-append earlier (program_of earlier steps ∷ []) in
    get_or-behind (earlier ++ program_of earlier steps ∷ []) table k d (omega (arith, grown))
    ∙ get_or-append_left earlier (program_of earlier steps ∷ []) k d below

-- a program stays as lists are added
pub program_at-before : (table more : List (List Step)) (n : ℕ) → n < length table → program_at (table ++ more) n ≡ program_at table n
program_at-before table more n below =
    let count = length-programs_behind [] table in
    ap (λ (all : List Program). get_or all n no_steps) (programs_behind-append [] table more)
    ∙ get_or-behind (programs table) more n no_steps (omega (arith, count))

-- the program of a list that is added
pub program_at-added : (table more : List (List Step)) (steps : List Step)
    → program_at (table ++ steps ∷ more) (length table) ≡ program_of (programs table) steps
program_at-added table more steps =
    let count = length-programs_behind [] table in
    let one = program_of (programs table) steps in
    let grown = length-append (programs table) (one ∷ []) in
    let long : length (programs table) ≡ length table = omega (arith, count) in
    ap (λ (all : List Program). get_or all (length table) no_steps) (programs_behind-append [] table (steps ∷ more))
    ∙ get_or-behind (programs table ++ one ∷ []) more (length table) no_steps (omega (arith, grown, long))
    ∙ ap (λ (n : ℕ). get_or (programs table ++ one ∷ []) n no_steps) (sym long) ∙ get_or-append_at (programs table) [] one no_steps

-- ---- the program of list n, by the programs of all

split_at : (table : List (List Step)) (n : ℕ) (steps : List Step) → slice_get table n ≡ Some steps
    → table ≡ take n table ++ steps ∷ drop (suc n) table
split_at [] n steps found = cc
split_at (first ∷ table) zero steps found = let same : first ≡ steps = cc in ap (λ (s : List Step). s ∷ table) same
split_at (first ∷ table) (suc n) steps found = ap (λ (rest : List (List Step)). first ∷ rest) (split_at table n steps found)

pub found_below : {A : Type 0} (xs : List A) (k : ℕ) (x : A) → slice_get xs k ≡ Some x → k < length xs
found_below [] k x found = cc
found_below (y ∷ xs) zero x found = omega arith
found_below (y ∷ xs) (suc k) x found = let below = found_below xs k x found in omega (arith, below)

length-take_below : {A : Type 0} (xs : List A) (k : ℕ) → k ≤ length xs → length (take k xs) ≡ k
length-take_below xs zero below = refl
length-take_below [] (suc k) below = absurd (omega arith)
length-take_below (x ∷ xs) (suc k) below = ap suc (length-take_below xs k (omega arith))

-- the inner programs of these steps are the same by both lists of programs
same_inside : (front all : List Program) (n : ℕ) (steps : List Step) → ((m : ℕ) → m < n → get_or front m no_steps ≡ get_or all m no_steps)
    → ((k m : ℕ) (step : Step) → slice_get steps k ≡ Some step → step.inner ≡ Some m → m < n)
    → program_of front steps ≡ program_of all steps
same_inside front all n [] same below = refl
same_inside front all n (step ∷ steps) same below =
    ap (λ (inner : Program). performs step.task inner (program_of front steps)) (inner_same step.inner (λ m is. below zero m step refl is))
    ∙ ap (performs step.task (inner_program all step.inner))
    (same_inside front all n steps same (λ k m other found is. below (suc k) m other found is))
  where
    inner_same : (inner : Option ℕ) → ((m : ℕ) → inner ≡ Some m → m < n) → inner_program front inner ≡ inner_program all inner
    inner_same None low = refl
    inner_same (Some m) low = same m (low m refl)

pub program_at-steps : (table : List (List Step)) (n : ℕ) (steps : List Step) → IsOrdered table → slice_get table n ≡ Some steps
    → program_at table n ≡ program_of (programs table) steps
program_at-steps table n steps ordered found =
    let front = take n table in
    let below = found_below table n steps found in
    let long : length front ≡ n = length-take_below table n (omega (arith, below)) in
    let split = split_at table n steps found in
    let more = steps ∷ drop (suc n) table in
    let here : program_at table n ≡ program_of (programs front) steps =
    ap (λ (t : List (List Step)). program_at t n) split ∙ ap (program_at (front ++ more)) (sym long)
    ∙ program_at-added front (drop (suc n) table) steps in
    let same : (m : ℕ) → m < n → get_or (programs front) m no_steps ≡ get_or (programs table) m no_steps =
    λ m low. sym (program_at-before front more m (omega (arith, low, long))) ∙ sym (ap (λ (t : List (List Step)). program_at t m) split) in
    here ∙ same_inside (programs front) (programs table) n steps same (λ k m step there is. ordered n k m steps step found there is)
