use Rattle.std.proofs.Common.{◌≡◌, ℕ, ◌+◌, ◌<◌, Some, false, [], ◌∷◌, sym, refl, ap, ◌∙◌, arith}
use Rattle.std.proofs.lemmas.Bool.Decides.{nat_tests}
use Rattle.std.proofs.lemmas.List.FromFn.{length-range_with_len, get_or-range_with_len}
use Rattle.std.proofs.lemmas.Option.{slice_get-get_or}
use Rattle.std.specs.List.{range_with_len, slice_get}
use Rattle.evp_queue.specs.Counts.{Counts, count_at, raised}
use Rattle.evp_queue.specs.Rule.{progress, with_counts}
use Rattle.evp_queue.specs.declared.tests.crowd.Steps.{Steps}
use Rattle.evp_queue.proofs.tests.crowd.give_all.Goals as goal

step_at : (number position : ℕ) → position < number → slice_get (range_with_len 0 number) position ≡ Some position
step_at number position below =
    slice_get-get_or (range_with_len 0 number) position 0 (omega (arith, length-range_with_len 0 number))
    ∙ ap (λ (n : ℕ). Some n) (get_or-range_with_len 0 number position 0 below ∙ omega arith)

abbrev three : ℕ → ℕ → ℕ → ℕ → Counts
three first a b c = (first, a) ∷ (first + 1, b) ∷ (first + 2, c) ∷ []

raised-first : (first a b c : ℕ) → raised first (three first a b c) ≡ three first (a + 1) b c
raised-first first a b c = grind (arith, nat_tests)

raised-second : (first a b c : ℕ) → raised (first + 1) (three first a b c) ≡ three first a (b + 1) c
raised-second first a b c = grind (arith, nat_tests)

at_first : (first a b c : ℕ) → count_at first (three first a b c) ≡ Some a
at_first first a b c = grind (arith, nat_tests)

at_second : (first a b c : ℕ) → count_at (first + 1) (three first a b c) ≡ Some b
at_second first a b c = grind (arith, nat_tests)

at_third : (first a b c : ℕ) → count_at (first + 2) (three first a b c) ≡ Some c
at_third first a b c = grind (arith, nat_tests)

pub give_again-requires-clause-next : goal.give_again-requires-clause-next
give_again-requires-clause-next g c =
    let is = c.loop-position.invariant.1 in
    let p = c.loop-position.position in (
      ap (λ v. count_at c.args.first v.counts) is ∙ at_first c.args.first p p p,
      (_, ap (λ v. v.whole) is, (p, step_at c.args.number p c.loop-position-test.true, refl)),
    )

pub give_again-requires-in-loop-position-clause-next :
    goal.give_again-requires-in-loop-position-clause-next
give_again-requires-in-loop-position-clause-next g c =
    let first = c.args.first in
    let p = c.loop-position.position in
    let was = c.loop-position.invariant.1 in
    let one = c.give_again.ensures.given in (
      ap (λ v. count_at (first + 1) v.counts) one ∙ ap (λ v. count_at (first + 1) (raised first v.counts)) was
          ∙ ap (count_at (first + 1)) (raised-first first p p p) ∙ at_second first (p + 1) p p,
      (_, ap (λ v. v.whole) one ∙ ap (λ v. v.whole) was, (p, step_at c.args.number p c.loop-position-test.true, refl)),
    )

pub give_again-requires-in-loop-position-2-clause-next :
    goal.give_again-requires-in-loop-position-2-clause-next
give_again-requires-in-loop-position-2-clause-next g c =
    let first = c.args.first in
    let p = c.loop-position.position in
    let was = c.loop-position.invariant.1 in
    let one = c.give_again.ensures.given in
    let two = c.give_again-in-loop-position.ensures.given in (
      ap (λ v. count_at (first + 2) v.counts) two ∙ ap (λ v. count_at (first + 2) (raised (first + 1) v.counts)) one
          ∙ ap (λ v. count_at (first + 2) (raised (first + 1) (raised first v.counts))) was
          ∙ ap (λ l. count_at (first + 2) (raised (first + 1) l)) (raised-first first p p p)
          ∙ ap (count_at (first + 2)) (raised-second first (p + 1) p p) ∙ at_third first (p + 1) (p + 1) p,
      (
        _,
        ap (λ v. v.whole) two ∙ ap (λ v. v.whole) one ∙ ap (λ v. v.whole) was,
        (p, step_at c.args.number p c.loop-position-test.true, refl),
      ),
    )
