use Rattle.std.proofs.Common.{◌≡◌, ◌-◌, length, Ok, refl, subst}
use Rattle.evp_base.specs.declared.order.Order.{Order}
use Rattle.evp_format.specs.Viewing.{Image}
use Rattle.evp_plan.specs.Fills.{AreWordsThere}
use Rattle.evp_plan.specs.Planned.{measured_whole}
use Rattle.evp_runner.specs.Outcome.{outcome}
use Rattle.evp_runner.specs.StepIn.{image_in}
use Rattle.evp_runner.proofs.QuickSizes.{last_tested, all_inside, numbers_told}
use Rattle.evp_runner.proofs.Runs.{can_whole, sent_order}
use Rattle.evp_runner.proofs.running.is_told.Goals as goal

pub is_told-requires : goal.is_told-requires
is_told-requires c = λ tests are.
    let plan = c.args.plan.now in
    let image = image_in c.sender_of-sender.result in
    let said = c.quick-tests.ensures in
    all_inside plan image tests 0 (last_tested plan tests said.ordered said.some are.steps) are.fit
    (can_whole plan c.args.item.now c.requires.to image (length plan.table - 1) 0 c.requires.stands c.bytes-held.ensures.kept
    c.sender_of-sender.ensures refl refl)

pub returns : goal.returns
returns c = λ told limit within.
    let plan = c.args.plan.now in
    let image = image_in c.sender_of-sender.result in
    let said = c.quick-tests.ensures in
    let known = c.is_told.ensures told in
    let Found : Image → Type 0 = λ i. Ok plan.fixed ≡ outcome (measured_whole plan i limit) in
    let There : Order → Type 0 = λ o. AreWordsThere 0 o image.bytes known.tests in
    subst Found c.sender_of-sender.ensures
    (numbers_told plan limit image known.tests (last_tested plan known.tests said.ordered said.some known.are.steps) known.are.fit
    known.numbers
    (subst There (sent_order plan c.args.item.now c.requires.to image c.requires.stands c.sender_of-sender.ensures) known.there)
    (can_whole plan c.args.item.now c.requires.to image (length plan.table - 1) 0 c.requires.stands c.bytes-held.ensures.kept
    c.sender_of-sender.ensures refl refl) c.sender_of-sender.result.are within)
