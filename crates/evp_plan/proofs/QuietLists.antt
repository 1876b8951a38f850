-- The steps that can refuse something, list after list.
use Rattle.std.proofs.Common.{◌≡◌, ℕ, zero, suc, ◌+◌, ◌<◌, ◌≤◌, Bool, true, false, ◌&&◌, List, [], ◌∷◌, ◌++◌, length, map, take}
use Rattle.std.proofs.Common.{get_or, Option, Some, None, refl, sym, ap, ◌∙◌, arith}
use Rattle.std.specs.Prelude.{slice_get, if◌then◌else◌}
use Rattle.std.proofs.lemmas.List.{take_more, map-append}
use Rattle.evp_format.proofs.Lists.{found_at}
use Rattle.evp_plan.specs.declared.step.Step.{Step}
use Rattle.evp_plan.specs.Program.{Program, no_steps, inner_program, program_of, programs, program_at, IsOrdered}
use Rattle.evp_plan.specs.Quiet.{is_quiet, is_quiet_op, is_quiet_inside, is_none, tests_of, tests_behind}
use Rattle.evp_plan.proofs.Programs.{program_at-steps}

-- ---- by what is known of the lists before

-- a list is quiet where none of its steps can refuse something
pub none_quiet : (all : List Program) (steps : List Step) → is_none (tests_of all steps) ≡ is_quiet (program_of all steps)
none_quiet all [] = refl
none_quiet all (step ∷ steps) = by (is_quiet_op step.task.size step.task.op (is_quiet (inner_program all step.inner)))
    (none_quiet all steps)
  where
    by : (quiet : Bool) → is_none (tests_of all steps) ≡ is_quiet (program_of all steps)
        → is_none (if quiet then tests_of all steps else step ∷ tests_of all steps)
        ≡ (quiet && is_quiet (program_of all steps))
    by true rest = rest
    by false rest = refl

-- what is known of the lists before is what the steps of these lists say
same_tests : (all : List Program) (earlier : List (List Step)) (steps : List Step)
    → ((k m : ℕ) (step : Step) → slice_get steps k ≡ Some step → step.inner ≡ Some m
    → is_none (get_or earlier m []) ≡ is_quiet (get_or all m no_steps))
    → tests_behind earlier steps ≡ tests_of all steps
same_tests all earlier [] same = refl
same_tests all earlier (step ∷ steps) same =
    ap (λ (rest : List Step). if is_quiet_op step.task.size step.task.op (is_quiet_inside earlier step.inner) then rest else step ∷ rest)
    (same_tests all earlier steps (λ k m other found is. same (suc k) m other found is))
    ∙ ap (λ (inside : Bool). if is_quiet_op step.task.size step.task.op inside then tests_of all steps else step ∷ tests_of all steps)
    (inside step.inner (λ m is. same zero m step refl is))
  where
    inside : (inner : Option ℕ) → ((m : ℕ) → inner ≡ Some m → is_none (get_or earlier m []) ≡ is_quiet (get_or all m no_steps))
        → is_quiet_inside earlier inner ≡ is_quiet (inner_program all inner)
    inside None known = refl
    inside (Some m) known = known m refl

tests_at : (f : List Step → List Step) (table : List (List Step)) (k m : ℕ) → m < k → k ≤ length table
    → get_or (map f (take k table)) m [] ≡ f (get_or table m [])
tests_at f [] k m below long = absurd (omega (arith, below, long))
tests_at f (steps ∷ table) zero m below long = absurd (omega (arith, below))
tests_at f (steps ∷ table) (suc k) zero below long = refl
tests_at f (steps ∷ table) (suc k) (suc m) below long = tests_at f table k m (omega (arith, below)) (omega (arith, long))

found_in : (table : List (List Step)) (m : ℕ) → m < length table → slice_get table m ≡ Some (get_or table m [])
found_in [] m below = absurd (omega (arith, below))
found_in (steps ∷ table) zero below = refl
found_in (steps ∷ table) (suc m) below = found_in table m (omega (arith, below))

quiet_at : (table : List (List Step)) (k m : ℕ) → IsOrdered table → m < k → k ≤ length table
    → is_none (get_or (map (tests_of (programs table)) (take k table)) m []) ≡ is_quiet (program_at table m)
quiet_at table k m ordered below long =
    let steps = get_or table m [] in
    let inside : m < length table = omega (arith, below, long) in
    ap is_none (tests_at (tests_of (programs table)) table k m below long) ∙ none_quiet (programs table) steps
    ∙ sym (ap is_quiet (program_at-steps table m steps ordered (found_in table m inside)))

-- one list more
pub tests_next : (table : List (List Step)) (k : ℕ) (entry steps more : List Step) (tests before pushed : List (List Step))
    → IsOrdered table → k < length table → entry ≡ get_or table k entry → steps ≡ entry → before ≡ tests → more ≡ tests_behind before steps
    → tests ≡ map (tests_of (programs table)) (take k table) → pushed ≡ tests ++ more ∷ []
    → pushed ≡ map (tests_of (programs table)) (take (k + 1) table)
tests_next table k entry steps more tests before pushed ordered below is are same more_is so_far pushed_is =
    let f = tests_of (programs table) in
    let first = map f (take k table) in
    let found : slice_get table k ≡ Some steps = found_at table table k entry refl below is ∙ ap (λ (s : List Step). Some s) (sym are) in
    let known : tests_behind first steps ≡ f steps =
    same_tests (programs table) first steps
    (λ j m step there inner. quiet_at table k m ordered (ordered k j m steps step found there inner) (omega (arith, below))) in
    let last : more ≡ f entry = more_is ∙ ap (λ (t : List (List Step)). tests_behind t steps) (same ∙ so_far) ∙ known ∙ ap f are in
    pushed_is ∙ ap (λ (t : List (List Step)). t ++ more ∷ []) so_far ∙ ap (λ (l : List Step). first ++ l ∷ []) last
    ∙ ap (λ (l : List Step). first ++ f l ∷ []) is ∙ sym (map-append f (take k table) (get_or table k entry ∷ []))
    ∙ sym (ap (map f) (take_more table k entry below))
