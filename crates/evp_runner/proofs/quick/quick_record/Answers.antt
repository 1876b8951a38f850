use Rattle.std.proofs.Common.{◌-◌, length, List, sym, ap, ◌∙◌, subst, arith}
use Rattle.std.specs.List.{All}
use Rattle.std.specs.Prelude.{IfSome}
use Rattle.std.proofs.lemmas.List.{length-map}
use Rattle.evp_plan.specs.declared.quick.Quick.{Quick}
use Rattle.evp_plan.specs.Quicks.{steps_in, IsFit, IsThere}
use Rattle.evp_runner.specs.StepIn.{image_in}
use Rattle.evp_runner.proofs.Quieted.{tests_can, tests_earlier}
use Rattle.evp_runner.proofs.QuickSizes.{step_there, own_step, last_tested, passes_next, passes_all, all_inside, numbers_pass}
use Rattle.evp_runner.proofs.quick.quick_record.Goals as goal

pub all_there-requires : goal.all_there-requires
all_there-requires c =
    let plan = c.args.measure.now.plan.now in
    let tests = c.quick-tests.result.now in
    let said = c.quick-tests.ensures in
    all_inside plan (image_in c.args.measure.now.sender) tests c.args.at (last_tested plan tests said.ordered said.some said.tests)
    c.as_slice-list.ensures.fit c.requires.can

pub returns-then-are_numbers-clause-value : goal.returns-then-are_numbers-clause-value
returns-then-are_numbers-clause-value c =
    let plan = c.args.measure.now.plan.now in
    let tests = c.quick-tests.result.now in
    let said = c.quick-tests.ensures in
    numbers_pass plan c.args.measure.now.limit (image_in c.args.measure.now.sender) tests c.args.at c.args.size
    (last_tested plan tests said.ordered said.some said.tests) c.as_slice-list.ensures.fit
    (sym c.are_numbers.ensures ∙ c.if-are_numbers.true) (c.all_there.ensures c.if-not-all_there.false) c.requires.can
    c.args.measure.now.sender.are

pub quick_test-requires-clause-can : goal.quick_test-requires-clause-can
quick_test-requires-clause-can c =
    let plan = c.args.measure.now.plan.now in
    let tests = c.as_slice-list.result.now in
    let k = c.loop-test.test-index in
    let said = c.quick-tests.ensures in
    let list = last_tested plan tests said.ordered said.some (ap steps_in c.as_slice-list.ensures.value ∙ said.tests) in
    tests_can plan (image_in c.args.measure.now.sender) (length plan.table - 1) (steps_in tests) c.args.at 0 list c.requires.can k _
    (step_there tests k c.test-item.result c.loop-test-test.true c.test-item.is)

pub quick_test-requires-clause-inside : goal.quick_test-requires-clause-inside
quick_test-requires-clause-inside c = λ m is.
    let plan = c.args.measure.now.plan.now in
    let tests = c.as_slice-list.result.now in
    let k = c.loop-test.test-index in
    let said = c.quick-tests.ensures in
    let list = last_tested plan tests said.ordered said.some (ap steps_in c.as_slice-list.ensures.value ∙ said.tests) in
    let low = tests_earlier plan (length plan.table - 1) (steps_in tests) k _ list
    (step_there tests k c.test-item.result c.loop-test-test.true c.test-item.is) m is in
    omega (arith, low)

pub quick_test-requires-clause-fit : goal.quick_test-requires-clause-fit
quick_test-requires-clause-fit c =
    let fit = subst (λ (tests : List Quick). All IsFit tests) (sym c.as_slice-list.ensures.value) c.as_slice-list.ensures.fit in
    subst IsFit (sym c.test-item.is) (fit c.loop-test.test-index c.test-item.result c.loop-test-test.true)

pub quick_test-requires-clause-there : goal.quick_test-requires-clause-there
quick_test-requires-clause-there c =
    let sender = c.args.measure.now.sender in
    let Are : Quick → Type 0 = λ test. IfSome test.words (IsThere c.args.at sender.order sender.bytes.now) in
    let there = subst (λ (tests : List Quick). All Are tests) (sym c.as_slice-list.ensures.value)
    (c.all_there.ensures c.if-not-all_there.false) in
    subst Are (sym c.test-item.is) (there c.loop-test.test-index c.test-item.result c.loop-test-test.true)

pub loop-test-preserved : goal.loop-test-preserved
loop-test-preserved c =
    let tests = c.as_slice-list.result.now in
    let k = c.loop-test.test-index in
    let below = c.loop-test-test.true in
    let long = length-map tests (λ (t : Quick). t.step) in (
      c.in-Some.ensures.bound,
      passes_next c.args.measure.now.plan.now c.args.measure.now.limit (image_in c.args.measure.now.sender) (steps_in tests) c.args.at
          c.args.size k c.loop-test.size c.in-Some.end c.test-item.result.step
          (own_step tests k c.test-item.result below c.test-item.is) (omega (arith, long, below)) c.in-Some.ensures.passes
          c.loop-test.invariant.1,
    )

pub returns-clause-value : goal.returns-clause-value
returns-clause-value c =
    let plan = c.args.measure.now.plan.now in
    let tests = c.as_slice-list.result.now in
    let said = c.quick-tests.ensures in
    let list = last_tested plan tests said.ordered said.some (ap steps_in c.as_slice-list.ensures.value ∙ said.tests) in
    let long = length-map tests (λ (t : Quick). t.step) in
    let past = c.loop-test-test.false in
    passes_all plan c.args.measure.now.limit (image_in c.args.measure.now.sender) (steps_in tests) c.args.at (length plan.table - 1)
    c.args.size c.loop-test.test-index c.loop-test.size (omega (arith, long, past)) list c.requires.can c.args.measure.now.sender.are
    c.loop-test.invariant.1
