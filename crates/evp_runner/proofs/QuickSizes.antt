-- What refuses nothing: texts, counted arrays, steps, and lists of them.
use Rattle.std.proofs.Common.{◌≡◌, ℕ, zero, suc, ◌+◌, ◌-◌, ◌<◌, ◌≤◌, pos, Bool, true, false, not, List, [], ◌∷◌, ◌++◌, length, drop}
use Rattle.std.proofs.Common.{get_or, Option, Some, None, Ok, refl, sym, ap, ◌∙◌, subst, arith}
use Rattle.std.specs.List.{All}
use Rattle.std.specs.Prelude.{IfSome, slice_get}
use Rattle.std.specs.Bool.{◌==◌}
use Rattle.std.proofs.lemmas.Bool.{le-ltb}
use Rattle.std.proofs.lemmas.Bool.Decides.{nat_tests}
use Rattle.std.proofs.lemmas.List.{length-map}
use Rattle.std.proofs.lemmas.List.Sums.{AllPass-from_list_all}
use Rattle.evp_base.specs.Numbers.{magnitude}
use Rattle.evp_base.proofs.Digits.{AreBytes}
use Rattle.evp_format.specs.Bytes.{bytes_at, next_block}
use Rattle.evp_format.specs.Converting.{Made, made, make_text, unless_unfit}
use Rattle.evp_format.specs.Datum.{Datum}
use Rattle.evp_format.specs.declared.place.PlaceStep.{PlaceStep}
use Rattle.evp_format.specs.declared.place.PlaceStep.TheVariants.{At}
use Rattle.evp_format.specs.Viewing.{Image}
use Rattle.evp_plan.specs.declared.quick.Quick.{Quick}
use Rattle.evp_plan.specs.declared.step.Elements.{Elements}
use Rattle.evp_plan.specs.declared.step.Op.{Op}
use Rattle.evp_plan.specs.declared.step.Op.TheVariants.{Text, Many}
use Rattle.evp_plan.specs.declared.step.Origin.{Origin}
use Rattle.evp_plan.specs.declared.step.Step.{Step}
use Rattle.evp_plan.specs.declared.words.Words.{Words}
use Rattle.evp_plan.specs.Among.{is_among}
use Rattle.evp_plan.specs.Measuring.{op_fits, sized, tested, measured, measured_op, measured_run}
use Rattle.evp_plan.specs.Measuring.{has_other_count}
use Rattle.evp_plan.specs.Planned.{Planned, measured_whole}
use Rattle.evp_plan.specs.Program.{programs, program_of, program_at, last_steps, IsOrdered}
use Rattle.evp_plan.specs.Quicks.{steps_in, has_words, have_words, IsFit, IsInside, IsThere}
use Rattle.evp_plan.specs.Quiet.{is_quiet, is_quiet_part, tests_of}
use Rattle.evp_plan.specs.Ready.{IsReady}
use Rattle.evp_plan.specs.Standing.{ended, text_by, origin_number}
use Rattle.evp_plan.specs.Words.{AreWordsFor}
use Rattle.evp_plan.proofs.FittingWords.{words_inside, words_fit, words_measured}
use Rattle.evp_runner.specs.Outcome.{outcome, verdict, step_verdict, sized_nothing, room_for}
use Rattle.evp_runner.specs.Passable.{TextPasses, ListPasses, StepPasses}
use Rattle.evp_runner.specs.StepIn.{inside, CanRun, CanStep, CanList}
use Rattle.evp_runner.proofs.Measured.{outcome_ok, many_by, elements_taken, rest_made, tested_next, tested_end, made_next, made_end}
use Rattle.evp_runner.proofs.Quieted.{Tested, tested_list, tests_made, tests_can, quiet_list}

-- ---- texts

pub some_text : (limit : ℕ) (image : Image) (s size end : ℕ) (bytes : List ℕ) → ended (Some bytes) ≡ text_by image s
    → end ≡ next_block size + length bytes + 1 → end ≤ limit → TextPasses limit image s size end
some_text limit image s size end bytes is end_is fits place =
    let whole : next_block size + (length bytes + 1) ≡ end = omega (arith, end_is) in
    let within : next_block size + (length bytes + 1) ≤ limit = omega (arith, whole, fits) in
    ap (λ (d : Datum). sized (make_text limit place (Some d) size)) (sym is)
    ∙ rw (le-ltb limit (next_block size + (length bytes + 1)) within) refl
    ∙ ap (λ (n : ℕ). made tt n) whole

pub no_text : (limit : ℕ) (image : Image) (s size : ℕ) → ended None ≡ text_by image s → TextPasses limit image s size size
no_text limit image s size is place = ap (λ (d : Datum). sized (make_text limit place (Some d) size)) (sym is)

-- ---- counted arrays

pub list_passes : (plan : Planned) (limit : ℕ) (image : Image) (step : Step) (origin : Origin) (elements : Elements) (at n size end : ℕ)
    → CanList plan image step elements at 0 → origin_number image at origin ≡ pos n
    → false ≡ has_other_count image at n elements.run → AreBytes image.bytes
    → is_quiet_part step.task.size elements.part (is_quiet (inside plan step)) ≡ true → Some end ≡ room_for limit n step.task.size size
    → ListPasses plan limit image step origin elements at size end
list_passes plan limit image step origin elements at n size end can wanted same are quiet some place =
    let measures : List PlaceStep → ℕ → ℕ → Made (Unit {0}) = λ place' s later. measured limit image (inside plan step) place' s later in
    let behind : ℕ → Made (Unit {0}) = λ later. measured_run limit image step.task.size elements.part measures place at elements.run n later
    in
    many_by limit image step.task.size elements measures place at (origin_number image at origin) n size wanted same
    ∙ elements_taken limit place n step.task.size size end behind some
    ∙ outcome_ok (behind end) end (sym (quiet_list plan limit image step elements place at 0 n end can (sym same) are quiet))

pub list_if : (plan : Planned) (limit : ℕ) (image : Image) (step : Step) (origin : Origin) (elements : Elements) (at n size : ℕ)
    (found : Option ℕ) → CanList plan image step elements at 0 → origin_number image at origin ≡ pos n
    → false ≡ has_other_count image at n elements.run → AreBytes image.bytes
    → is_quiet_part step.task.size elements.part (is_quiet (inside plan step)) ≡ true → found ≡ room_for limit n step.task.size size
    → IfSome found (λ end. ListPasses plan limit image step origin elements at size end)
list_if plan limit image step origin elements at n size None can wanted same are quiet is = tt
list_if plan limit image step origin elements at n size (Some end) can wanted same are quiet is =
    list_passes plan limit image step origin elements at n size end can wanted same are quiet is

-- ---- steps

-- a single number whose word is one of those that fit
pub words_pass : (plan : Planned) (limit : ℕ) (image : Image) (step : Step) (at size : ℕ) (found : Option Words) (words : Words)
    → found ≡ Some words → IfSome found (AreWordsFor step.task.size step.task.op) → CanStep plan image step at 0 → AreBytes image.bytes
    → is_among words.top words.under (magnitude image.order (bytes_at (at + words.offset) words.size image.bytes)) ≡ true
    → StepPasses plan limit image step at size size
words_pass plan limit image step at size found words is known can are among =
    let For : Option Words → Type 0 = λ o. IfSome o (AreWordsFor step.task.size step.task.op) in
    let fit = subst For is known in
    record {
      fits = words_fit image at step.task.size step.task.op words (λ s. IsReady image (inside plan step) s) fit can.ready are among;
      sizes = λ place. words_measured limit image step.task.size step.task.op words
          (λ place' s later. measured limit image (inside plan step) place' s later) place at size fit;
    }

-- one that has words, and whose word is one of them
pub some_pass : (plan : Planned) (limit : ℕ) (image : Image) (step : Step) (at size : ℕ) (found : Option Words) → has_words found ≡ true
    → IfSome found (AreWordsFor step.task.size step.task.op) → IfSome found (IsThere at image.order image.bytes)
    → CanStep plan image step at 0 → AreBytes image.bytes → StepPasses plan limit image step at size size
some_pass plan limit image step at size None some fit there can are = cc
some_pass plan limit image step at size (Some words) some fit there can are =
    words_pass plan limit image step at size (Some words) words refl fit can are there

-- its word stands inside the bytes
words_there : (plan : Planned) (image : Image) (step : Step) (at : ℕ) (found : Option Words) (words : Words) → found ≡ Some words
    → IfSome found (AreWordsFor step.task.size step.task.op) → CanStep plan image step at 0
    → at + words.offset + words.size ≤ length image.bytes
words_there plan image step at found words is known can =
    let For : Option Words → Type 0 = λ o. IfSome o (AreWordsFor step.task.size step.task.op) in
    words_inside image at step.task.size step.task.op words (λ s. IsReady image (inside plan step) s) (subst For is known) can.ready

some_there : (plan : Planned) (image : Image) (step : Step) (at : ℕ) (found : Option Words)
    → IfSome found (AreWordsFor step.task.size step.task.op) → CanStep plan image step at 0 → IfSome found (IsInside at image.bytes)
some_there plan image step at None fit can = tt
some_there plan image step at (Some words) fit can = words_there plan image step at (Some words) words refl fit can

pub text_passes : (plan : Planned) (limit : ℕ) (image : Image) (step : Step) (at offset size end : ℕ) → step.task.op ≡ Text (Some offset)
    → TextPasses limit image (at + offset) size end → StepPasses plan limit image step at size end
text_passes plan limit image step at offset size end is passes =
    record {
      fits = ap (op_fits image at step.task.size) is;
      sizes = λ place. ap (λ (o : Op). measured_op limit image step.task.size o
          (λ place' s later. measured limit image (inside plan step) place' s later) place at size) is ∙ passes place;
    }

pub none_passes : (plan : Planned) (limit : ℕ) (image : Image) (step : Step) (at size : ℕ) → step.task.op ≡ Text None
    → StepPasses plan limit image step at size size
none_passes plan limit image step at size is =
    record {
      fits = ap (op_fits image at step.task.size) is;
      sizes = λ place. ap (λ (o : Op). measured_op limit image step.task.size o
          (λ place' s later. measured limit image (inside plan step) place' s later) place at size) is;
    }

pub many_passes : (plan : Planned) (limit : ℕ) (image : Image) (step : Step) (at size end : ℕ) (origin : Origin) (elements : Elements)
    → step.task.op ≡ Many origin elements → ListPasses plan limit image step origin elements at size end
    → StepPasses plan limit image step at size end
many_passes plan limit image step at size end origin elements is passes =
    record {
      fits = ap (op_fits image at step.task.size) is;
      sizes = λ place. ap (λ (o : Op). measured_op limit image step.task.size o
          (λ place' s later. measured limit image (inside plan step) place' s later) place at size) is ∙ passes place;
    }

-- ---- lists of steps

fitting : (image : Image) (at : ℕ) (step : Step) (place : List PlaceStep) → op_fits image at step.task.size step.task.op ≡ true
    → step_verdict image at step place ≡ Ok tt
fitting image at step place fits =
    ap (λ (b : Bool). verdict (unless_unfit (not b) (place ++ At step.task.field ∷ []) (λ _. sized_nothing 0))) fits

-- the step of test k
step_at : (tests : List Quick) (k : ℕ) (d : Quick) (e : Step) → k < length tests → (get_or tests k d).step ≡ get_or (steps_in tests) k e
step_at [] k d e below = absurd (omega (arith, below))
step_at (test ∷ tests) zero d e below = refl
step_at (test ∷ tests) (suc k) d e below = step_at tests k d e (omega (arith, below))

step_found : (tests : List Quick) (k : ℕ) (d : Quick) → k < length tests → slice_get (steps_in tests) k ≡ Some (get_or tests k d).step
step_found [] k d below = absurd (omega (arith, below))
step_found (test ∷ tests) zero d below = refl
step_found (test ∷ tests) (suc k) d below = step_found tests k d (omega (arith, below))

pub own_step : (tests : List Quick) (k : ℕ) (test : Quick) → k < length tests → test ≡ get_or tests k test
    → test.step ≡ get_or (steps_in tests) k test.step
own_step tests k test below is = ap (λ (t : Quick). t.step) is ∙ step_at tests k test test.step below

pub step_there : (tests : List Quick) (k : ℕ) (test : Quick) → k < length tests → test ≡ get_or tests k test
    → slice_get (steps_in tests) k ≡ Some test.step
step_there tests k test below is = step_found tests k test below ∙ ap (λ (t : Quick). Some t.step) (sym is)

-- the steps of the last list that are tested
pub last_tested : (plan : Planned) (tests : List Quick) → IsOrdered plan.table → 1 ≤ length plan.table
    → steps_in tests ≡ tests_of (programs plan.table) (last_steps plan.table)
    → Tested plan (length plan.table - 1) (steps_in tests)
last_tested plan tests ordered some are = tested_list plan (length plan.table - 1) (steps_in tests) ordered (omega (arith, some)) are

-- what is left of the steps finds what all of them find
pub record PassesSoFar (plan : Planned) (limit : ℕ) (image : Image) (steps : List Step) (at start k size : ℕ) : Type 0 where
  pub tests : tested image at (program_of (programs plan.table) (drop k steps)) []
      ≡ tested image at (program_of (programs plan.table) steps) []
  pub sizes : rest_made plan limit image [] at (drop k steps) size ≡ rest_made plan limit image [] at steps start

pub passes_next : (plan : Planned) (limit : ℕ) (image : Image) (steps : List Step) (at start k size end : ℕ) (step : Step)
    → step ≡ get_or steps k step → k < length steps → StepPasses plan limit image step at size end
    → PassesSoFar plan limit image steps at start k size → PassesSoFar plan limit image steps at start (k + 1) end
passes_next plan limit image steps at start k size end step is below passes so_far =
    record {
      tests = tested_next image at (programs plan.table) steps k step [] (tested image at (program_of (programs plan.table) steps) [])
          below is (fitting image at step [] passes.fits) so_far.tests;
      sizes = made_next plan limit image [] at steps k step size end (rest_made plan limit image [] at steps start) is below
          (ap outcome (passes.sizes ([] ++ At step.task.field ∷ []))) so_far.sizes;
    }

pub passes_all : (plan : Planned) (limit : ℕ) (image : Image) (steps : List Step) (at n start k size : ℕ) → length steps ≤ k
    → Tested plan n steps → CanRun plan image (program_at plan.table n) at 0 → AreBytes image.bytes
    → PassesSoFar plan limit image steps at start k size
    → Ok size ≡ outcome (measured limit image (program_at plan.table n) [] at start)
passes_all plan limit image steps at n start k size past list can are so_far =
    let whole = tested image at (program_of (programs plan.table) steps) [] in
    let fine = tested_end image at (programs plan.table) steps k [] whole past so_far.tests in
    made_end plan limit image [] at steps k size (rest_made plan limit image [] at steps start) past so_far.sizes
    ∙ sym (ap outcome (tests_made plan limit image [] at n 0 steps start list can are (sym fine)))

-- ---- quick tests

-- the words of all of them stand inside the bytes
pub all_inside : (plan : Planned) (image : Image) (tests : List Quick) (at : ℕ) → Tested plan (length plan.table - 1) (steps_in tests)
    → All IsFit tests → CanRun plan image (program_at plan.table (length plan.table - 1)) at 0
    → All (λ (test : Quick). IfSome test.words (IsInside at image.bytes)) tests
all_inside plan image tests at list fit can = λ k d below.
    let test = get_or tests k d in
    some_there plan image test.step at test.words (fit k d below)
    (tests_can plan image (length plan.table - 1) (steps_in tests) at 0 list can k test.step (step_found tests k d below))

-- steps that leave the size as it is
none_grows : (plan : Planned) (limit : ℕ) (image : Image) (tests : List Quick) (at size : ℕ)
    → ((k : ℕ) (d : Quick) → k < length tests → StepPasses plan limit image (get_or tests k d).step at size size)
    → (k : ℕ) → k ≤ length tests → PassesSoFar plan limit image (steps_in tests) at size k size
none_grows plan limit image tests at size each zero below = record { tests = refl; sizes = refl }
none_grows plan limit image [] at size each (suc k) below = absurd (omega (arith, below))
none_grows plan limit image (first ∷ tests) at size each (suc k) below =
    let all = first ∷ tests in
    let step = (get_or all k first).step in
    let long = length-map all (λ (t : Quick). t.step) in
    let inside : k < length all = omega (arith, below) in
    let P : ℕ → Type 0 = λ n. PassesSoFar plan limit image (steps_in all) at size n size in
    let next : k + 1 ≡ suc k = omega arith in
    subst P next
    (passes_next plan limit image (steps_in all) at size k size size step (step_at all k first step inside) (omega (arith, long, below))
    (each k first inside) (none_grows plan limit image all at size each k (omega (arith, below))))

-- numbers whose words all stand there
pub numbers_pass : (plan : Planned) (limit : ℕ) (image : Image) (tests : List Quick) (at size : ℕ)
    → Tested plan (length plan.table - 1) (steps_in tests) → All IsFit tests → have_words tests ≡ true
    → All (λ (test : Quick). IfSome test.words (IsThere at image.order image.bytes)) tests
    → CanRun plan image (program_at plan.table (length plan.table - 1)) at 0 → AreBytes image.bytes
    → Ok size ≡ outcome (measured limit image (program_at plan.table (length plan.table - 1)) [] at size)
numbers_pass plan limit image tests at size list fit numbers there can are =
    let n = length plan.table - 1 in
    let long = length-map tests (λ (t : Quick). t.step) in
    let some = AllPass-from_list_all (λ (test : Quick). has_words test.words) tests numbers in
    passes_all plan limit image (steps_in tests) at n size (length tests) size (omega (arith, long)) list can are
    (none_grows plan limit image tests at size
    (λ k d below.
    let test = get_or tests k d in
    some_pass plan limit image test.step at size test.words (some k d below) (fit k d below) (there k d below)
    (tests_can plan image n (steps_in tests) at 0 list can k test.step (step_found tests k d below)) are)
    (length tests) (omega arith))

-- a plan that tests numbers whose words all stand there finds the size of the fixed part
pub numbers_told : (plan : Planned) (limit : ℕ) (image : Image) (tests : List Quick)
    → Tested plan (length plan.table - 1) (steps_in tests) → All IsFit tests → have_words tests ≡ true
    → All (λ (test : Quick). IfSome test.words (IsThere 0 image.order image.bytes)) tests
    → CanRun plan image (program_at plan.table (length plan.table - 1)) 0 0 → AreBytes image.bytes → plan.fixed ≤ limit
    → Ok plan.fixed ≡ outcome (measured_whole plan image limit)
numbers_told plan limit image tests list fit numbers there can are within =
    rw (le-ltb limit plan.fixed within) (numbers_pass plan limit image tests 0 plan.fixed list fit numbers there can are)

pub none_left : (n : ℕ) → true ≡ (n == 0) → n ≡ 0
none_left n is = grind (arith, nat_tests, is)

-- a plan that has no tests finds the size of the fixed part
pub nothing_tested : (plan : Planned) (limit : ℕ) (image : Image) (tests : List Quick)
    → Tested plan (length plan.table - 1) (steps_in tests) → length tests ≡ 0
    → CanRun plan image (program_at plan.table (length plan.table - 1)) 0 0 → AreBytes image.bytes → plan.fixed ≤ limit
    → Ok plan.fixed ≡ outcome (measured_whole plan image limit)
nothing_tested plan limit image tests list none can are within =
    let long = length-map tests (λ (t : Quick). t.step) in
    rw (le-ltb limit plan.fixed within)
    (passes_all plan limit image (steps_in tests) 0 (length plan.table - 1) plan.fixed 0 plan.fixed (omega (arith, long, none)) list can are
    (record { tests = refl; sizes = refl }))
