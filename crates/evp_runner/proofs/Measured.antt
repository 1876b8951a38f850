-- Measuring step by step: what was measured, followed by the rest.
use Rattle.std.proofs.Common.{◌≡◌, ℕ, zero, suc, ◌+◌, ◌-◌, ◌*◌, ◌<◌, ◌≤◌, ℤ, pos, IsTrue, Bool, true, false, not, List, [], ◌∷◌, ◌++◌}
use Rattle.std.proofs.Common.{length, get_or, drop, Some, None, Ok, Err, refl, sym, ap, ◌∙◌, subst, arith, add-one}
use Rattle.std.proofs.Common.{drop-cons}
use Rattle.std.specs.Prelude.{slice_get, nat_lt, if◌then◌else◌}
use Rattle.std.proofs.Math.Nat.{mul-le-mul_left}
use Rattle.std.proofs.lemmas.Bool.Decides.{nat_tests}
use Rattle.evp_format.proofs.Lists.{found_at}
use Rattle.evp_format.specs.declared.place.PlaceStep.{PlaceStep}
use Rattle.evp_format.specs.declared.place.PlaceStep.TheVariants.{At, Nth}
use Rattle.evp_format.specs.Converting.{Made, made, unfit, large, then_make, unless_unfit, unless_large}
use Rattle.evp_format.specs.Viewing.{Image}
use Rattle.evp_plan.specs.declared.step.Step.{Step}
use Rattle.evp_plan.specs.declared.step.Elements.{Elements}
use Rattle.evp_plan.specs.declared.step.Part.{Part}
use Rattle.evp_plan.specs.declared.step.Run.{Run}
use Rattle.evp_plan.specs.Standing.{element_place, run_count}
use Rattle.evp_plan.specs.Measuring.{op_fits, tested, measured_part, measured_op, measured_steps, measured, measured_elements, measured_run}
use Rattle.evp_plan.specs.Measuring.{measured_list, has_other_count, counted_block}
use Rattle.evp_plan.specs.Planned.{Planned}
use Rattle.evp_plan.specs.Program.{Program, program_of, programs, program_at, IsOrdered}
use Rattle.evp_plan.specs.Ready.{IsReady}
use Rattle.std.proofs.lemmas.Bool.{eqb-true}
use Rattle.evp_base.specs.declared.kind.Kind.{Kind}
use Rattle.evp_base.specs.declared.kind.Kind.TheVariants.{Int, Unsigned, Char, Boolean, Enumeration}
use Rattle.evp_base.specs.Numbers.{is_width, is_size_of}
use Rattle.evp_plan.specs.declared.step.Part.TheVariants as part
use Rattle.evp_plan.specs.Sound.{IsSoundPart, IsSound}
use Rattle.evp_plan.proofs.Programs.{program_at-steps}
use Rattle.evp_runner.specs.declared.convert_fault.ConvertFault.{ConvertFault}
use Rattle.evp_runner.specs.declared.convert_fault.ConvertFault.TheVariants.{Large}
use Rattle.evp_format.specs.Bytes.{next_block}
use Rattle.evp_runner.specs.Outcome.{outcome, verdict, step_verdict, sized_nothing, room_for}
use Rattle.evp_runner.specs.StepIn.{inside, CanRun, CanStep, CanElements, CanPart}

-- ---- answers

pub record Passed (m : Made (Unit {0})) : Type 0 where
  pub size : ℕ
  pub is : m ≡ made tt size

pub verdict_ok : (m : Made (Unit {0})) → verdict m ≡ Ok tt → Passed m
verdict_ok (made u size) ok = record { size = size; is = refl }
verdict_ok (unfit place) ok = cc
verdict_ok (large place) ok = cc

pub verdict_err : (m : Made (Unit {0})) (fault : ConvertFault) (next : Unit {0} → ℕ → Made (Unit {0})) → verdict m ≡ Err fault
    → outcome (then_make m next) ≡ Err fault
verdict_err (made u size) fault next err = cc
verdict_err (unfit place) fault next err = cc
verdict_err (large place) fault next err = cc

pub outcome_ok : (m : Made (Unit {0})) (size : ℕ) → outcome m ≡ Ok size → m ≡ made tt size
outcome_ok (made u size') size ok = let same : size' ≡ size = cc in ap (λ (n : ℕ). made tt n) same
outcome_ok (unfit place) size ok = cc
outcome_ok (large place) size ok = cc

pub outcome_err : (m : Made (Unit {0})) (fault : ConvertFault) (next : Unit {0} → ℕ → Made (Unit {0})) → outcome m ≡ Err fault
    → outcome (then_make m next) ≡ Err fault
outcome_err (made u size) fault next err = cc
outcome_err (unfit place) fault next err = cc
outcome_err (large place) fault next err = cc

-- ---- lists of steps

pub rest_of : (steps : List Step) (k : ℕ) (step : Step) → k < length steps → step ≡ get_or steps k step
    → drop k steps ≡ step ∷ drop (k + 1) steps
rest_of steps k step below is = drop-cons steps k step below ∙ ap (λ (s : Step). s ∷ drop (suc k) steps) (sym is)
    ∙ ap (λ (n : ℕ). step ∷ drop n steps) (sym (add-one k))

pub no_rest : (steps : List Step) (k : ℕ) → length steps ≤ k → drop k steps ≡ []
no_rest [] zero past = refl
no_rest [] (suc k) past = refl
no_rest (step ∷ steps) zero past = absurd (omega arith)
no_rest (step ∷ steps) (suc k) past = no_rest steps k (omega arith)

-- ---- single numbers

test_passed : (test : Bool) (place : List PlaceStep) (next next' : Unit {0} → Made (Unit {0}))
    → verdict (unless_unfit test place next) ≡ Ok tt → ((unit : Unit {0}) → next unit ≡ made tt 0)
    → unless_unfit test place next' ≡ next' tt
test_passed true place next next' ok is = cc
test_passed false place next next' ok is = refl

test_failed : (test : Bool) (place : List PlaceStep) (fault : ConvertFault) (next' : Unit {0} → Made (Unit {0}))
    → verdict (unless_unfit test place (λ _. sized_nothing 0)) ≡ Err fault → verdict (unless_unfit test place next') ≡ Err fault
test_failed true place fault next' err = err
test_failed false place fault next' err = cc

pub tested_next : (image : Image) (at : ℕ) (progs : List Program) (steps : List Step) (k : ℕ) (step : Step) (place : List PlaceStep)
    (whole : Made (Unit {0})) → k < length steps → step ≡ get_or steps k step
    → step_verdict image at step place ≡ Ok tt → tested image at (program_of progs (drop k steps)) place ≡ whole
    → tested image at (program_of progs (drop (k + 1) steps)) place ≡ whole
tested_next image at progs steps k step place whole below is ok so_far =
    let rest : Unit {0} → Made (Unit {0}) = λ _. tested image at (program_of progs (drop (k + 1) steps)) place in
    sym (test_passed (not (op_fits image at step.task.size step.task.op)) (place ++ At step.task.field ∷ []) (λ _. sized_nothing 0) rest ok
    (λ _. refl))
    ∙ sym (ap (λ (s : List Step). tested image at (program_of progs s) place) (rest_of steps k step below is)) ∙ so_far

pub tested_fault : (image : Image) (at : ℕ) (progs : List Program) (steps : List Step) (k : ℕ) (step : Step) (place : List PlaceStep)
    (whole : Made (Unit {0})) (fault : ConvertFault) → k < length steps → step ≡ get_or steps k step
    → step_verdict image at step place ≡ Err fault → tested image at (program_of progs (drop k steps)) place ≡ whole
    → verdict whole ≡ Err fault
tested_fault image at progs steps k step place whole fault below is err so_far =
    let rest : Unit {0} → Made (Unit {0}) = λ _. tested image at (program_of progs (drop (k + 1) steps)) place in
    ap verdict (sym so_far ∙ ap (λ (s : List Step). tested image at (program_of progs s) place) (rest_of steps k step below is))
    ∙ test_failed (not (op_fits image at step.task.size step.task.op)) (place ++ At step.task.field ∷ []) fault rest err

pub tested_end : (image : Image) (at : ℕ) (progs : List Program) (steps : List Step) (k : ℕ) (place : List PlaceStep)
    (whole : Made (Unit {0})) → length steps ≤ k
    → tested image at (program_of progs (drop k steps)) place ≡ whole → Ok tt ≡ verdict whole
tested_end image at progs steps k place whole past so_far =
    ap verdict (sym (ap (λ (s : List Step). tested image at (program_of progs s) place) (no_rest steps k past)) ∙ so_far)

-- ---- the other fields

abbrev pub step_made : Planned → ℕ → Image → List PlaceStep → ℕ → Step → ℕ → Made (Unit {0})
step_made plan limit image place at step size =
    measured_op limit image step.task.size step.task.op (λ place' s later. measured limit image (inside plan step) place' s later)
    (place ++ At step.task.field ∷ []) at size

-- the rest of a record's steps, from a size on
abbrev pub rest_made : Planned → ℕ → Image → List PlaceStep → ℕ → List Step → ℕ → Made (Unit {0})
rest_made plan limit image place at steps size = measured_steps limit image (program_of (programs plan.table) steps) place at size

pub made_next : (plan : Planned) (limit : ℕ) (image : Image) (place : List PlaceStep) (at : ℕ) (steps : List Step) (k : ℕ) (step : Step)
    (size after : ℕ) (whole : Made (Unit {0})) → step ≡ get_or steps k step → k < length steps
    → outcome (step_made plan limit image place at step size) ≡ Ok after → rest_made plan limit image place at (drop k steps) size ≡ whole
    → rest_made plan limit image place at (drop (k + 1) steps) after ≡ whole
made_next plan limit image place at steps k step size after whole is below ok so_far =
    let one = step_made plan limit image place at step size in
    let next : Unit {0} → ℕ → Made (Unit {0}) = λ _ later. rest_made plan limit image place at (drop (k + 1) steps) later in
    sym (ap (λ (m : Made (Unit {0})). then_make m next) (outcome_ok one after ok))
    ∙ sym (ap (λ (s : List Step). rest_made plan limit image place at s size) (rest_of steps k step below is)) ∙ so_far

pub made_fault : (plan : Planned) (limit : ℕ) (image : Image) (place : List PlaceStep) (at : ℕ) (steps : List Step) (k : ℕ) (step : Step)
    (size : ℕ) (fault : ConvertFault) (whole : Made (Unit {0})) → step ≡ get_or steps k step → k < length steps
    → outcome (step_made plan limit image place at step size) ≡ Err fault → rest_made plan limit image place at (drop k steps) size ≡ whole
    → outcome whole ≡ Err fault
made_fault plan limit image place at steps k step size fault whole is below err so_far =
    let one = step_made plan limit image place at step size in
    let next : Unit {0} → ℕ → Made (Unit {0}) = λ _ later. rest_made plan limit image place at (drop (k + 1) steps) later in
    ap outcome (sym so_far ∙ ap (λ (s : List Step). rest_made plan limit image place at s size) (rest_of steps k step below is))
    ∙ outcome_err one fault next err

pub made_end : (plan : Planned) (limit : ℕ) (image : Image) (place : List PlaceStep) (at : ℕ) (steps : List Step) (k size : ℕ)
    (whole : Made (Unit {0})) → length steps ≤ k
    → rest_made plan limit image place at (drop k steps) size ≡ whole → Ok size ≡ outcome whole
made_end plan limit image place at steps k size whole past so_far =
    ap outcome (sym (ap (λ (s : List Step). rest_made plan limit image place at s size) (no_rest steps k past)) ∙ so_far)

-- a record, by the list of its steps
pub record_made : (plan : Planned) (limit : ℕ) (image : Image) (place : List PlaceStep) (at n : ℕ) (steps : List Step) (size : ℕ)
    → IsOrdered plan.table → slice_get plan.table n ≡ Some steps
    → verdict (tested image at (program_of (programs plan.table) steps) place) ≡ Ok tt
    → measured limit image (program_at plan.table n) place at size ≡ rest_made plan limit image place at steps size
record_made plan limit image place at n steps size ordered found ok =
    let program = program_of (programs plan.table) steps in
    let passed = verdict_ok (tested image at program place) ok in
    ap (λ (p : Program). measured limit image p place at size) (program_at-steps plan.table n steps ordered found)
    ∙ ap (λ (m : Made (Unit {0})). then_make m (λ _ _. measured_steps limit image program place at size)) passed.is

pub record_fault : (plan : Planned) (limit : ℕ) (image : Image) (place : List PlaceStep) (at n : ℕ) (steps : List Step) (size : ℕ)
    (fault : ConvertFault) → IsOrdered plan.table → slice_get plan.table n ≡ Some steps
    → verdict (tested image at (program_of (programs plan.table) steps) place) ≡ Err fault
    → outcome (measured limit image (program_at plan.table n) place at size) ≡ Err fault
record_fault plan limit image place at n steps size fault ordered found err =
    let program = program_of (programs plan.table) steps in
    ap (λ (p : Program). outcome (measured limit image p place at size)) (program_at-steps plan.table n steps ordered found)
    ∙ verdict_err (tested image at program place) fault (λ _ _. measured_steps limit image program place at size) err

-- ---- what can be run

pub each_can : (plan : Planned) (image : Image) (steps : List Step) (at placed levels length : ℕ)
    → IsReady image (program_of (programs plan.table) steps) at → placed + 2 * levels ≤ 32
    → IsSound plan.pointer (program_of (programs plan.table) steps) levels length → (k : ℕ) (step : Step) → slice_get steps k ≡ Some step
    → CanStep plan image step at placed
each_can plan image [] at placed levels length ready room sound k step found = cc
each_can plan image (first ∷ steps) at placed levels length ready room sound zero step found =
    let same : first ≡ step = cc in
    let Can : Step → Type 0 = λ s. CanStep plan image s at placed in
    subst Can same (record { ready = ready.0; levels = levels - 1; room = omega (arith, room, sound.0); length = length; sound = sound.1 })
each_can plan image (first ∷ steps) at placed levels length ready room sound (suc k) step found = each_can plan image steps at placed levels
    length ready.1 room sound.2 k step found

pub can_each : (plan : Planned) (image : Image) (n : ℕ) (steps : List Step) (at placed : ℕ) → IsOrdered plan.table
    → slice_get plan.table n ≡ Some steps → CanRun plan image (program_at plan.table n) at placed
    → (k : ℕ) (step : Step) → slice_get steps k ≡ Some step → CanStep plan image step at placed
can_each plan image n steps at placed ordered found can =
    let program = program_at-steps plan.table n steps ordered found in
    let Ready : Program → Type 0 = λ p. IsReady image p at in
    let Sound : Program → Type 0 = λ p. IsSound plan.pointer p can.levels can.length in
    each_can plan image steps at placed can.levels can.length (subst Ready program can.ready) can.room (subst Sound program can.sound)

-- ---- elements

-- element i of the sender's array
abbrev pub element_made : Planned → ℕ → Image → Step → Part → List PlaceStep → ℕ → Run → ℕ → ℕ → Made (Unit {0})
element_made plan limit image step part place at run i size =
    measured_part limit image step.task.size part (λ place' s later. measured limit image (inside plan step) place' s later)
    (place ++ Nth i ∷ []) (element_place image at run i) size

element_step : (one : ℕ → ℕ → Made (Unit {0})) (n k size : ℕ) → k < n
    → measured_elements one (n - k) k size ≡ then_make (one k size) (λ _ later. measured_elements one (n - (k + 1)) (k + 1) later)
element_step one n k size below =
    let more : n - k ≡ suc (n - (k + 1)) = omega (arith, below) in
    let next : suc k ≡ k + 1 = omega arith in
    ap (λ (m : ℕ). measured_elements one m k size) more
    ∙ ap (λ (j : ℕ). then_make (one k size) (λ _ later. measured_elements one (n - (k + 1)) j later)) next

pub element_next : (one : ℕ → ℕ → Made (Unit {0})) (n k size after : ℕ) (whole : Made (Unit {0})) → k < n → outcome (one k size) ≡ Ok after
    → measured_elements one (n - k) k size ≡ whole
    → measured_elements one (n - (k + 1)) (k + 1) after ≡ whole
element_next one n k size after whole below ok so_far =
    sym (ap (λ (m : Made (Unit {0})). then_make m (λ _ later. measured_elements one (n - (k + 1)) (k + 1) later))
    (outcome_ok (one k size) after ok))
    ∙ sym (element_step one n k size below) ∙ so_far

pub element_fault : (one : ℕ → ℕ → Made (Unit {0})) (n k size : ℕ) (fault : ConvertFault) (whole : Made (Unit {0})) → k < n
    → outcome (one k size) ≡ Err fault → measured_elements one (n - k) k size ≡ whole → outcome whole ≡ Err fault
element_fault one n k size fault whole below err so_far =
    ap outcome (sym so_far ∙ element_step one n k size below) ∙ outcome_err (one k size) fault
    (λ _ later. measured_elements one (n - (k + 1)) (k + 1) later) err

pub element_end : (one : ℕ → ℕ → Made (Unit {0})) (n k size : ℕ) (whole : Made (Unit {0})) → n ≤ k
    → measured_elements one (n - k) k size ≡ whole → Ok size ≡ outcome whole
element_end one n k size whole past so_far =
    let none : n - k ≡ 0 = omega (arith, past) in
    ap outcome (sym (ap (λ (m : ℕ). measured_elements one m k size) none) ∙ so_far)

-- ---- blocks of elements

room_none : (test : Bool) (place : List PlaceStep) (end : ℕ) (next : ℕ → Made (Unit {0})) → (if test then None else Some end) ≡ None
    → outcome (unless_large test place (λ _. next end)) ≡ Err (Large place)
room_none true place end next none = refl
room_none false place end next none = cc

pub elements_large : (limit : ℕ) (place : List PlaceStep) (n element_size size : ℕ) (next : ℕ → Made (Unit {0}))
    → None ≡ room_for limit n element_size size
    → Err (Large place) ≡ outcome (counted_block limit place n element_size size next)
elements_large limit place zero element_size size next none = cc
elements_large limit place (suc n) element_size size next none =
    sym (room_none (nat_lt limit (next_block size + suc n * element_size)) place (next_block size + suc n * element_size) next (sym none))

room_some : (test : Bool) (place : List PlaceStep) (end end' : ℕ) (next : ℕ → Made (Unit {0}))
    → (if test then None else Some end) ≡ Some end' → unless_large test place (λ _. next end) ≡ next end'
room_some true place end end' next some = cc
room_some false place end end' next some = let same : end ≡ end' = cc in ap next same

pub elements_taken : (limit : ℕ) (place : List PlaceStep) (n element_size size end : ℕ) (next : ℕ → Made (Unit {0}))
    → Some end ≡ room_for limit n element_size size
    → counted_block limit place n element_size size next ≡ next end
elements_taken limit place zero element_size size end next some = let same : size ≡ end = cc in ap next same
elements_taken limit place (suc n) element_size size end next some =
    room_some (nat_lt limit (next_block size + suc n * element_size)) place (next_block size + suc n * element_size) end next (sym some)

-- a counted array whose length is the wanted one
pub many_by : (limit : ℕ) (image : Image) (size : ℕ) (elements : Elements) (measures : List PlaceStep → ℕ → ℕ → Made (Unit {0}))
    (place : List PlaceStep) (at : ℕ) (z : ℤ) (n after : ℕ) → z ≡ pos n
    → false ≡ has_other_count image at n elements.run
    → measured_list limit image size counted_block elements measures place at z after
    ≡ counted_block limit place n size after (λ later. measured_run limit image size elements.part measures place at elements.run n later)
many_by limit image size elements measures place at z n after is same =
    ap (λ (y : ℤ). measured_list limit image size counted_block elements measures place at y after) is
    ∙ ap (λ (test : Bool). unless_unfit test place
    (λ _. counted_block limit place n size after (λ later. measured_run limit image size elements.part measures place at elements.run n
    later))) (sym same)

-- ---- the steps that a loop is at

pub at_index : {A : Type 0} (xs : List A) (k : ℕ) (d : A) → k < length xs → slice_get xs k ≡ Some (get_or xs k d)
at_index [] k d below = absurd (omega arith)
at_index (x ∷ xs) zero d below = refl
at_index (x ∷ xs) (suc k) d below = at_index xs k d (omega arith)

pub own_index : {A : Type 0} (xs : List A) (k : ℕ) (d : A) → k < length xs → get_or xs k d ≡ get_or xs k (get_or xs k d)
own_index [] k d below = absurd (omega arith)
own_index (x ∷ xs) zero d below = refl
own_index (x ∷ xs) (suc k) d below = own_index xs k d (omega arith)

-- an array's element
pub can_part : (plan : Planned) (image : Image) (step : Step) (part : Part) (run : Run) (at placed n k s : ℕ)
    → CanElements plan image step part run at placed → run_count image at run ≡ n → k < n → s ≡ element_place image at run k
    → (s ≤ length image.bytes) × CanPart plan image step part s placed
can_part plan image step part run at placed n k s can count below is =
    let low : k < run_count image at run = omega (arith, count, below) in
    let within = can.ready.within k low in
    let P : ℕ → Type 0 = λ p. CanPart plan image step part p placed in (
      omega (arith, within, is),
      subst P (sym is) (record { ready = can.ready.each k low; levels = can.levels; room = can.room; sound = can.sound }),
    )

-- the steps of that number
pub found_steps : (plan : Planned) (n : ℕ) (table : List (List Step)) (entry steps : List Step) → table ≡ plan.table → n < length plan.table
    → entry ≡ get_or table n entry → steps ≡ entry → slice_get plan.table n ≡ Some steps
found_steps plan n table entry steps same below is are =
    let long = ap length same in
    found_at table plan.table n entry same (omega (arith, below, long)) is ∙ ap (λ (s : List Step). Some s) (sym are)

-- more elements than the limit has bytes
pub too_many : (limit n element_size size : ℕ) → limit < n → 1 ≤ element_size → None ≡ room_for limit n element_size size
too_many limit zero element_size size many some = absurd (omega (arith, many))
too_many limit (suc n) element_size size many some =
    let bytes = mul-le-mul_left (suc n) some in
    let past : limit < next_block size + suc n * element_size = omega (arith, bytes, many) in
    let test : nat_lt limit (next_block size + suc n * element_size) ≡ true = grind (arith, nat_tests, past) in
    sym (ap (λ (b : Bool). if b then None else Some (next_block size + suc n * element_size)) test)

-- an element has a byte
some_of_width : (size : ℕ) → IsTrue (is_width size) → 1 ≤ size
some_of_width zero wide = absurd (cc)
some_of_width (suc n) wide = omega arith

some_of_kind : (kind : Kind) (size : ℕ) → IsTrue (is_size_of kind size) → 1 ≤ size
some_of_kind Int size allowed = some_of_width size allowed
some_of_kind Unsigned size allowed = some_of_width size allowed
some_of_kind Boolean size allowed = some_of_width size allowed
some_of_kind Enumeration size allowed = some_of_width size allowed
some_of_kind Char size allowed = let one = eqb-true size 1 allowed in omega (arith, one)

pub some_bytes : (pointer size : ℕ) (p : Part) (Inside : ℕ → Type 0) → IsTrue (is_width pointer) → IsSoundPart pointer size p Inside
    → 1 ≤ size
some_bytes pointer size (part.Number kind from width) Inside wide sound = some_of_kind kind size sound
some_bytes pointer size part.Text Inside wide sound = let some = some_of_width pointer wide in omega (arith, some, sound)
some_bytes pointer size part.Record Inside wide sound = sound.0
