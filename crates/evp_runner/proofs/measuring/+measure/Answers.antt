use Rattle.std.proofs.Common.{◌∙◌, ℕ, ◌+◌, ◌*◌, [], ◌∷◌, ◌++◌, length, ap, sym, arith}
use Rattle.std.proofs.lemmas.Result.{err_from_is_err_and}
use Rattle.std.proofs.lemmas.Int.{ints}
use Rattle.evp_format.specs.declared.place.PlaceStep.TheVariants.{Nth}
use Rattle.evp_format.specs.Converting.{Made}
use Rattle.evp_plan.specs.Measuring.{measured, measured_part, measured_elements}
use Rattle.evp_runner.specs.Outcome.{outcome}
use Rattle.evp_runner.specs.StepIn.{image_in, inside}
use Rattle.evp_runner.proofs.Measured.{rest_made, element_made, made_next, made_fault, made_end}
use Rattle.evp_runner.proofs.Measured.{at_index, own_index, can_part, element_next, element_fault, element_end, some_bytes}
use Rattle.evp_runner.proofs.Quieted.{tested_list, tests_made, tests_fault, tests_can, tests_earlier, quiet_list}
use Rattle.evp_runner.proofs.measuring.+measure.Goals as goal

pub measure_record-test_numbers-requires-clause-can : goal.measure_record-test_numbers-requires-clause-can
measure_record-test_numbers-requires-clause-can t c =
    let plan = c.args.measure.now.plan.now in
    let steps = c.tests-steps.result.now in
    let list = tested_list plan c.args.number steps c.tests-steps.ensures.ordered c.requires.known c.tests-steps.ensures.tests in
    tests_can plan (image_in c.args.measure.now.sender) c.args.number steps c.args.at (length c.args.place.now) list c.requires.can

pub measure_record-returns-in_err-test_numbers-clause-value : goal.measure_record-returns-in_err-test_numbers-clause-value
measure_record-returns-in_err-test_numbers-clause-value t c =
    let p = err_from_is_err_and c.from_residual.result c.from_residual.ensures.1 in
    let plan = c.args.measure.now.plan.now in
    let steps = c.tests-steps.result.now in
    let list = tested_list plan c.args.number steps c.tests-steps.ensures.ordered c.requires.known c.tests-steps.ensures.tests in
    let whole =
    tests_fault plan c.args.measure.now.limit (image_in c.args.measure.now.sender) c.args.place.now c.args.at c.args.number
    (length c.args.place.now) steps c.args.size c.in_err-test_numbers.field-0.0 list c.requires.can c.args.measure.now.sender.are
    (sym c.in_err-test_numbers.ensures) in
    rw (p.1, p.2) (sym whole)

pub measure_record-measure_step-requires : goal.measure_record-measure_step-requires
measure_record-measure_step-requires t c =
    let plan = c.args.measure.now.plan.now in
    let steps = c.tests-steps.result.now in
    let k = c.loop-step.step-index in
    let list = tested_list plan c.args.number steps c.tests-steps.ensures.ordered c.requires.known c.tests-steps.ensures.tests in
    let can = tests_can plan (image_in c.args.measure.now.sender) c.args.number steps c.args.at (length c.args.place.now) list
    c.requires.can in (
      omega arith,
      (
        c.requires.known,
        (
          c.requires.at_inside,
          (
            c.loop-step.invariant.0,
            (
              can k _ (at_index steps k _ c.loop-step-test.true),
              tests_earlier plan c.args.number steps k _ list (at_index steps k _ c.loop-step-test.true),
            ),
          ),
        ),
      ),
    )

pub measure_record-returns-in_err-size-clause-value : goal.measure_record-returns-in_err-size-clause-value
measure_record-returns-in_err-size-clause-value t c =
    let p = err_from_is_err_and c.from_residual-in_err-size.result c.from_residual-in_err-size.ensures.1 in
    let plan = c.args.measure.now.plan.now in
    let limit = c.args.measure.now.limit in
    let image = image_in c.args.measure.now.sender in
    let place = c.args.place.now in
    let steps = c.tests-steps.result.now in
    let k = c.loop-step.step-index in
    let list = tested_list plan c.args.number steps c.tests-steps.ensures.ordered c.requires.known c.tests-steps.ensures.tests in
    let made = tests_made plan limit image place c.args.at c.args.number (length place) steps c.args.size list c.requires.can
    c.args.measure.now.sender.are (sym c.in_ok-test_numbers.ensures) in
    let fault =
    made_fault plan limit image place c.args.at steps k _ c.loop-step.size c.in_err-size.field-0.0
    (rest_made plan limit image place c.args.at steps c.args.size) (own_index steps k _ c.loop-step-test.true) c.loop-step-test.true
    (sym c.in_err-size.ensures.value) c.loop-step.invariant.1 in
    rw (p.1, p.2) (sym (ap outcome made ∙ fault))

pub measure_record-returns-clause-value : goal.measure_record-returns-clause-value
measure_record-returns-clause-value t c =
    let plan = c.args.measure.now.plan.now in
    let limit = c.args.measure.now.limit in
    let image = image_in c.args.measure.now.sender in
    let place = c.args.place.now in
    let steps = c.tests-steps.result.now in
    let list = tested_list plan c.args.number steps c.tests-steps.ensures.ordered c.requires.known c.tests-steps.ensures.tests in
    let made = tests_made plan limit image place c.args.at c.args.number (length place) steps c.args.size list c.requires.can
    c.args.measure.now.sender.are (sym c.in_ok-test_numbers.ensures) in
    made_end plan limit image place c.args.at steps c.loop-step.step-index c.loop-step.size
    (rest_made plan limit image place c.args.at steps c.args.size) c.loop-step-test.false c.loop-step.invariant.1
    ∙ sym (ap outcome made)

pub measure_record-loop-step-preserved : goal.measure_record-loop-step-preserved
measure_record-loop-step-preserved t c =
    let plan = c.args.measure.now.plan.now in
    let limit = c.args.measure.now.limit in
    let image = image_in c.args.measure.now.sender in
    let place = c.args.place.now in
    let steps = c.tests-steps.result.now in
    let k = c.loop-step.step-index in (
      c.in_ok-size.ensures.bound,
      made_next plan limit image place c.args.at steps k _ c.loop-step.size c.in_ok-size.size
          (rest_made plan limit image place c.args.at steps c.args.size) (own_index steps k _ c.loop-step-test.true) c.loop-step-test.true
          (sym c.in_ok-size.ensures.value) c.loop-step.invariant.1,
    )

pub measure_elements-measure_part-requires : goal.measure_elements-measure_part-requires
measure_elements-measure_part-requires t c =
    let k = c.loop-k.k in
    let stands = ap (λ (start : ℕ). start + k * c.args.run.now.stride) c.start_of-start.ensures in
    let low =
    can_part c.args.measure.now.plan.now (image_in c.args.measure.now.sender) c.args.step.now c.args.part.now c.args.run.now c.args.at
    (length c.args.place.now) c.args.n k (c.start_of-start.result + k * c.args.run.now.stride)
    c.requires.can c.requires.same_count c.loop-k-test.true stands in
    (omega arith, (c.requires.known, (low.0, (c.loop-k.invariant.0, (low.1, c.requires.earlier)))))

pub measure_elements-loop-k-preserved : goal.measure_elements-loop-k-preserved
measure_elements-loop-k-preserved t c =
    let plan = c.args.measure.now.plan.now in
    let limit = c.args.measure.now.limit in
    let image = image_in c.args.measure.now.sender in
    let k = c.loop-k.k in
    let one = element_made plan limit image c.args.step.now c.args.part.now c.args.place.now c.args.at c.args.run.now in
    let stands = ap (λ (start : ℕ). start + k * c.args.run.now.stride) c.start_of-start.ensures in
    let at_place : ℕ → Made (Unit {0}) = λ s.
    measured_part limit image c.args.step.now.task.size c.args.part.now
    (λ place' s' later. measured limit image (inside plan c.args.step.now) place' s' later) (c.args.place.now ++ Nth k ∷ []) s
    c.loop-k.size in (
      c.in_ok-size.ensures.bound,
      element_next one c.args.n k c.loop-k.size c.in_ok-size.size (measured_elements one c.args.n 0 c.args.size) c.loop-k-test.true
          (sym (ap (λ (s : ℕ). outcome (at_place s)) stands) ∙ sym c.in_ok-size.ensures.value) c.loop-k.invariant.1,
    )

pub measure_elements-returns-in_err-size-clause-value : goal.measure_elements-returns-in_err-size-clause-value
measure_elements-returns-in_err-size-clause-value t c =
    let p = err_from_is_err_and c.from_residual.result c.from_residual.ensures.1 in
    let plan = c.args.measure.now.plan.now in
    let limit = c.args.measure.now.limit in
    let image = image_in c.args.measure.now.sender in
    let k = c.loop-k.k in
    let one = element_made plan limit image c.args.step.now c.args.part.now c.args.place.now c.args.at c.args.run.now in
    let stands = ap (λ (start : ℕ). start + k * c.args.run.now.stride) c.start_of-start.ensures in
    let at_place : ℕ → Made (Unit {0}) = λ s.
    measured_part limit image c.args.step.now.task.size c.args.part.now
    (λ place' s' later. measured limit image (inside plan c.args.step.now) place' s' later) (c.args.place.now ++ Nth k ∷ []) s
    c.loop-k.size in
    let fault =
    element_fault one c.args.n k c.loop-k.size c.in_err-size.field-0.0 (measured_elements one c.args.n 0 c.args.size) c.loop-k-test.true
    (sym (ap (λ (s : ℕ). outcome (at_place s)) stands) ∙ sym c.in_err-size.ensures.value) c.loop-k.invariant.1 in
    rw (p.1, p.2) (sym fault)

pub measure_elements-returns-clause-value : goal.measure_elements-returns-clause-value
measure_elements-returns-clause-value t c =
    let one =
    element_made c.args.measure.now.plan.now c.args.measure.now.limit (image_in c.args.measure.now.sender) c.args.step.now c.args.part.now
    c.args.place.now c.args.at c.args.run.now in
    element_end one c.args.n c.loop-k.k c.loop-k.size (measured_elements one c.args.n 0 c.args.size) c.loop-k-test.false
    c.loop-k.invariant.1

pub measure_many-take_elements-requires-clause-some : goal.measure_many-take_elements-requires-clause-some
measure_many-take_elements-requires-clause-some t c =
    some_bytes c.args.measure.now.plan.now.pointer c.args.step.now.task.size c.args.elements.now.part _ c.args.measure.now.wide
    c.requires.can.sound

pub measure_many-overflow_cast-wanted-in-Some : goal.measure_many-overflow_cast-wanted-in-Some
measure_many-overflow_cast-wanted-in-Some t c = let few = c.in-Some.ensures.few in omega (arith, ints, few)

pub measure_run-returns-then-is_quiet-clause-value : goal.measure_run-returns-then-is_quiet-clause-value
measure_run-returns-then-is_quiet-clause-value t c =
    quiet_list c.args.measure.now.plan.now c.args.measure.now.limit (image_in c.args.measure.now.sender) c.args.step.now
    c.args.elements.now c.args.place.now c.args.at (length c.args.place.now) c.args.n c.args.size c.requires.can c.requires.same_count
    c.args.measure.now.sender.are (sym c.if-is_quiet.ensures)
