use Rattle.std.proofs.Common.{ℕ, ◌≤◌, ◌-◌, List, length, refl, ap, ◌∙◌, subst, arith}
use Rattle.evp_base.proofs.Digits.{AreBytes}
use Rattle.evp_format.specs.Viewing.{image_of}
use Rattle.evp_plan.specs.Quicks.{steps_in}
use Rattle.evp_runner.proofs.QuickSizes.{last_tested, none_left, nothing_tested}
use Rattle.evp_runner.proofs.Runs.{can_whole}
use Rattle.evp_runner.proofs.running.quick_whole.Goals as goal

pub returns-then-is_empty : goal.returns-then-is_empty
returns-then-is_empty c =
    let plan = c.args.plan.now in
    let held = c.args.item.now in
    let image = image_of held.layout held.bytes in
    let tests = c.as_slice-list.result.now in
    let said = c.quick-tests.ensures in
    let fixed = c.fixed.ensures in
    let short = c.if-fixed-limit.false in
    let within : plan.fixed ≤ c.args.limit = omega (arith, fixed, short) in
    let Are : List ℕ → Type 0 = λ bytes. AreBytes bytes in
    rw (c.fixed-then-is_empty.ensures)
    (nothing_tested plan c.args.limit image tests
    (last_tested plan tests said.ordered said.some (ap steps_in c.as_slice-list.ensures.value ∙ said.tests))
    (none_left (length tests) c.if-is_empty.ensures)
    (can_whole plan held c.requires.to image (length plan.table - 1) 0 c.requires.stands c.bytes-bytes.ensures.kept refl refl refl)
    (subst Are c.bytes-bytes.ensures.value c.are_bytes.ensures) within)
