use Rattle.std.proofs.Common.{◌≡◌, ◌+◌, ℕ, refl, subst, arith}
use Rattle.evp_plan.specs.Standing.{text_from}
use Rattle.evp_runner.specs.Sizing.{image_by_eight, text_end}
use Rattle.evp_runner.proofs.BlockEnds.{text_ends}
use Rattle.evp_runner.proofs.sizing.size_of_text.Goals as goal

pub returns-clause-ends : goal.returns-clause-ends
returns-clause-ends c =
    let image = image_by_eight c.args.order c.args.bytes.now in
    let end = c.aligned.result + c.in-Some.length + 1 in
    let some = c.in-Some.ensures.some in
    let Ends : ℕ → Type 0 = λ p. end ≡ text_end (text_from image p) c.args.size in
    subst Ends c.eight_at-from.ensures
    (text_ends image c.eight_at-from.result c.in-Some.length c.args.size end (λ none. omega (arith, none, some)) c.in-Some.ensures.count
    (rw (c.aligned.ensures) refl))
