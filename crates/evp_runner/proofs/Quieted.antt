-- What a list of steps finds, by those that can refuse something or take a block.
use Rattle.std.proofs.Common.{◌≡◌, ℕ, ◌<◌, Bool, true, false, not, List, [], ◌∷◌, length, get_or, Option, Some, None, Ok, Err}
use Rattle.std.proofs.Common.{refl, sym, ap, ◌∙◌, subst, arith}
use Rattle.std.specs.Bool.{◌==◌}
use Rattle.std.specs.Prelude.{slice_get, nat_eq}
use Rattle.std.proofs.lemmas.Bool.Decides.{nat_tests}
use Rattle.evp_base.proofs.Digits.{AreBytes}
use Rattle.evp_format.specs.Converting.{Made, then_make}
use Rattle.evp_format.specs.declared.place.PlaceStep.{PlaceStep}
use Rattle.evp_format.specs.Viewing.{Image}
use Rattle.evp_plan.specs.declared.step.Elements.{Elements}
use Rattle.evp_plan.specs.declared.step.Run.{Run}
use Rattle.evp_plan.specs.declared.step.Step.{Step}
use Rattle.evp_plan.specs.Measuring.{tested, measured_steps, measured, measured_run, has_other_count}
use Rattle.evp_plan.specs.Planned.{Planned}
use Rattle.evp_plan.specs.Program.{Program, inner_program, program_of, programs, program_at, IsOrdered}
use Rattle.evp_plan.specs.Quiet.{is_none, is_quiet, is_quiet_part, tests_of}
use Rattle.evp_plan.specs.Ready.{IsReady, AreElementsThere}
use Rattle.evp_plan.specs.Sound.{IsSound}
use Rattle.evp_plan.specs.Standing.{run_count}
use Rattle.evp_plan.proofs.Programs.{program_at-steps}
use Rattle.evp_plan.proofs.QuietLists.{none_quiet}
use Rattle.evp_plan.proofs.QuietSteps.{tests_tested, tests_measured, tests_among, tests_ready, tests_sound, quiet_run, quiet_measured}
use Rattle.evp_runner.specs.declared.convert_fault.ConvertFault.{ConvertFault}
use Rattle.evp_runner.specs.Outcome.{outcome, verdict}
use Rattle.evp_runner.specs.StepIn.{inside, CanRun, CanStep, CanList, IsEarlier}
use Rattle.evp_runner.proofs.Measured.{verdict_ok, verdict_err, each_can, rest_made, at_index}

-- a list of the plan, and those of its steps that can refuse something or take a block
pub record Tested (plan : Planned) (n : ℕ) (tests : List Step) : Type 0 where
  pub steps : List Step
  pub ordered : IsOrdered plan.table
  pub found : slice_get plan.table n ≡ Some steps
  pub are : tests ≡ tests_of (programs plan.table) steps

pub tested_list : (plan : Planned) (n : ℕ) (tests : List Step) → IsOrdered plan.table → n < length plan.table
    → tests ≡ tests_of (programs plan.table) (get_or plan.table n []) → Tested plan n tests
tested_list plan n tests ordered below are =
    record { steps = get_or plan.table n []; ordered = ordered; found = at_index plan.table n [] below; are = are }

-- the record's program is the list's
listed : (plan : Planned) (n : ℕ) (tests : List Step) → (t : Tested plan n tests)
    → program_at plan.table n ≡ program_of (programs plan.table) t.steps
listed plan n tests t = program_at-steps plan.table n t.steps t.ordered t.found

-- a record, by these steps alone
by_tests : (plan : Planned) (limit : ℕ) (image : Image) (place : List PlaceStep) (at n placed : ℕ) (tests : List Step) (size : ℕ)
    → Tested plan n tests → CanRun plan image (program_at plan.table n) at placed → AreBytes image.bytes
    → measured limit image (program_at plan.table n) place at size
    ≡ then_make (tested image at (program_of (programs plan.table) tests) place)
    (λ _ _. rest_made plan limit image place at tests size)
by_tests plan limit image place at n placed tests size t can are =
    let all = programs plan.table in
    let Ready : Program → Type 0 = λ p. IsReady image p at in
    let ready = subst Ready (listed plan n tests t) can.ready in
    let first = tests_tested image at all t.steps place ready are in
    let second = tests_measured limit image all t.steps place at size ready are in
    ap (λ (p : Program). measured limit image p place at size) (listed plan n tests t)
    ∙ sym (ap (λ (m : Made (Unit {0})). then_make m (λ _ _. measured_steps limit image (program_of all t.steps) place at size)) first)
    ∙ sym (ap (λ (m : Made (Unit {0})). then_make (tested image at (program_of all (tests_of all t.steps)) place) (λ _ _. m)) second)
    ∙ sym (ap (λ (s : List Step). then_make (tested image at (program_of all s) place) (λ _ _. rest_made plan limit image place at s size))
    t.are)

pub tests_made : (plan : Planned) (limit : ℕ) (image : Image) (place : List PlaceStep) (at n placed : ℕ) (tests : List Step) (size : ℕ)
    → Tested plan n tests → CanRun plan image (program_at plan.table n) at placed → AreBytes image.bytes
    → verdict (tested image at (program_of (programs plan.table) tests) place) ≡ Ok tt
    → measured limit image (program_at plan.table n) place at size ≡ rest_made plan limit image place at tests size
tests_made plan limit image place at n placed tests size t can are ok =
    let passed = verdict_ok (tested image at (program_of (programs plan.table) tests) place) ok in
    by_tests plan limit image place at n placed tests size t can are
    ∙ ap (λ (m : Made (Unit {0})). then_make m (λ _ _. rest_made plan limit image place at tests size)) passed.is

pub tests_fault : (plan : Planned) (limit : ℕ) (image : Image) (place : List PlaceStep) (at n placed : ℕ) (tests : List Step) (size : ℕ)
    (fault : ConvertFault) → Tested plan n tests → CanRun plan image (program_at plan.table n) at placed → AreBytes image.bytes
    → verdict (tested image at (program_of (programs plan.table) tests) place) ≡ Err fault
    → outcome (measured limit image (program_at plan.table n) place at size) ≡ Err fault
tests_fault plan limit image place at n placed tests size fault t can are err =
    ap outcome (by_tests plan limit image place at n placed tests size t can are)
    ∙ verdict_err (tested image at (program_of (programs plan.table) tests) place) fault
    (λ _ _. rest_made plan limit image place at tests size) err

pub tests_can : (plan : Planned) (image : Image) (n : ℕ) (tests : List Step) (at placed : ℕ) → Tested plan n tests
    → CanRun plan image (program_at plan.table n) at placed → (k : ℕ) (step : Step) → slice_get tests k ≡ Some step
    → CanStep plan image step at placed
tests_can plan image n tests at placed t can =
    let all = programs plan.table in
    let Ready : Program → Type 0 = λ p. IsReady image p at in
    let Sound : Program → Type 0 = λ p. IsSound plan.pointer p can.levels can.length in
    let Ready' : List Step → Type 0 = λ s. IsReady image (program_of all s) at in
    let Sound' : List Step → Type 0 = λ s. IsSound plan.pointer (program_of all s) can.levels can.length in
    let ready = tests_ready image at all t.steps (subst Ready (listed plan n tests t) can.ready) in
    let sound = tests_sound plan.pointer can.levels can.length all t.steps (subst Sound (listed plan n tests t) can.sound) in
    each_can plan image tests at placed can.levels can.length (subst Ready' (sym t.are) ready) can.room (subst Sound' (sym t.are) sound)

pub tests_earlier : (plan : Planned) (n : ℕ) (tests : List Step) (k : ℕ) (step : Step) → Tested plan n tests
    → slice_get tests k ≡ Some step → IsEarlier n step
tests_earlier plan n tests k step t found =
    let Found : List Step → Type 0 = λ s. slice_get s k ≡ Some step in
    let among = tests_among (programs plan.table) t.steps k step (subst Found t.are found) in
    λ m is. t.ordered n among.index m t.steps step t.found among.found is

-- a list without such steps is quiet
pub none_inside : (plan : Planned) (n : ℕ) (tests : List Step) → Tested plan n tests → is_none tests ≡ is_quiet (program_at plan.table n)
none_inside plan n tests t =
    ap is_none t.are ∙ none_quiet (programs plan.table) t.steps ∙ sym (ap is_quiet (listed plan n tests t))

none_is : (tests : List Step) → (length tests == 0) ≡ is_none tests
none_is [] = refl
none_is (step ∷ tests) = grind (arith, nat_tests)

pub quiet_inside : (plan : Planned) (step : Step) (n : ℕ) (tests : List Step) (empty : Bool) → IsOrdered plan.table → n < length plan.table
    → tests ≡ tests_of (programs plan.table) (get_or plan.table n []) → step.inner ≡ Some n → empty ≡ (length tests == 0)
    → empty ≡ is_quiet (inside plan step)
quiet_inside plan step n tests empty ordered below are is empty_is =
    empty_is ∙ none_is tests ∙ none_inside plan n tests (tested_list plan n tests ordered below are)
    ∙ sym (ap (λ (inner : Option ℕ). is_quiet (inner_program (programs plan.table) inner)) is)

counts_none : (count n : ℕ) → not (nat_eq count n) ≡ false → count ≡ n
counts_none count n same = grind (arith, nat_tests, same)

-- elements that find nothing
pub quiet_list : (plan : Planned) (limit : ℕ) (image : Image) (step : Step) (elements : Elements) (place : List PlaceStep)
    (at placed n size : ℕ) → CanList plan image step elements at placed → has_other_count image at n elements.run ≡ false
    → AreBytes image.bytes → is_quiet_part step.task.size elements.part (is_quiet (inside plan step)) ≡ true
    → Ok size ≡ outcome (measured_run limit image step.task.size elements.part
    (λ place' s later. measured limit image (inside plan step) place' s later) place at elements.run n size)
quiet_list plan limit image step elements place at placed n size can count are quiet = by elements.run can.ready count
  where
    by : (run : Option Run) → AreElementsThere image at elements.part (λ s. IsReady image (inside plan step) s) run
        → has_other_count image at n run ≡ false
        → Ok size ≡ outcome (measured_run limit image step.task.size elements.part
        (λ place' s later. measured limit image (inside plan step) place' s later) place at run n size)
    by None ready count = refl
    by (Some run) ready count =
        sym (ap outcome
        (quiet_run limit image step.task.size elements.part (is_quiet (inside plan step))
        (λ place' s later. measured limit image (inside plan step) place' s later) (λ s. IsReady image (inside plan step) s) place at n size
        run quiet ready (counts_none (run_count image at run) n count) are
        (λ is place' s later here. quiet_measured limit image (inside plan step) place' s later is here are)))
