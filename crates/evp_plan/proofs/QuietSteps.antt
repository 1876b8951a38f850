-- Quiet steps find nothing: what a list of steps finds, it finds by those that can refuse something or take a block.
use Rattle.std.proofs.Common.{◌≡◌, ℕ, zero, suc, ◌+◌, ◌-◌, ◌*◌, ◌<◌, ◌≤◌, ◌^◌, ℤ, IsTrue, Bool, true, false, not, List, [], ◌∷◌, ◌++◌}
use Rattle.std.proofs.Common.{length, drop, Option, Some, None, refl, sym, ap, ◌∙◌, subst, arith}
use Rattle.std.specs.Prelude.{slice_get, nat_eq, if◌then◌else◌}
use Rattle.std.proofs.Math.Nat.{pow-le-pow_right}
use Rattle.std.proofs.lemmas.Bool.{and_parts, eqb-true}
use Rattle.std.proofs.lemmas.Bool.Decides.{nat_tests}
use Rattle.std.proofs.lemmas.Int.{ints}
use Rattle.std.proofs.lemmas.List.{length-drop, length-take}
use Rattle.evp_base.specs.declared.kind.Kind.{Kind}
use Rattle.evp_base.specs.declared.kind.Kind.TheVariants.{Int, Unsigned, Char, Boolean, Enumeration}
use Rattle.evp_base.specs.Numbers.{number, is_size_of, is_in_range, InRange}
use Rattle.evp_base.proofs.Digits.{AreBytes}
use Rattle.evp_base.proofs.Numbers.{InRange-number}
use Rattle.evp_format.proofs.Places.{AreBytes-cut}
use Rattle.evp_format.specs.Bytes.{bytes_at}
use Rattle.evp_format.specs.Converting.{Made, made, unfit, large, then_make, unless_unfit}
use Rattle.evp_format.specs.declared.place.PlaceStep.{PlaceStep}
use Rattle.evp_format.specs.declared.place.PlaceStep.TheVariants.{At, Nth}
use Rattle.evp_format.specs.Viewing.{Image}
use Rattle.evp_format.specs.Zero.{as_count}
use Rattle.evp_plan.specs.declared.step.Op.{Op}
use Rattle.evp_plan.specs.declared.step.Op.TheVariants.{Number, Text, Nest, Each, Many}
use Rattle.evp_plan.specs.declared.step.Origin.{Origin}
use Rattle.evp_plan.specs.declared.step.Origin.TheVariants.{Standing, Stated}
use Rattle.evp_plan.specs.declared.step.Part.{Part}
use Rattle.evp_plan.specs.declared.step.Part.TheVariants as part
use Rattle.evp_plan.specs.declared.step.Run.{Run}
use Rattle.evp_plan.specs.declared.step.Step.{Step}
use Rattle.evp_plan.specs.Measuring.{op_fits, tested, measured_part, measured_elements, measured_run, has_other_count, measured_op}
use Rattle.evp_plan.specs.Measuring.{measured_steps, measured}
use Rattle.evp_plan.specs.Program.{Program, no_steps, performs, inner_program, program_of}
use Rattle.evp_plan.specs.Quiet.{covers, is_quiet_part, has_stated_count, is_quiet_run, is_quiet_op, is_quiet, tests_of}
use Rattle.evp_plan.specs.Ready.{IsPartThere, IsRunThere, AreElementsThere, IsOpThere, IsReady}
use Rattle.evp_plan.specs.Sound.{IsSound}
use Rattle.evp_plan.specs.Standing.{origin_number, run_count, element_place}
use Rattle.evp_plan.proofs.Defaults.{range_test}

-- ---- ranges

pub length_cut : (bytes : List ℕ) (at size : ℕ) → at + size ≤ length bytes → length (bytes_at at size bytes) ≡ size
length_cut bytes at size within =
    let left = length-drop at bytes in
    let taken = length-take size (drop at bytes) in
    omega (arith, left, taken)

signed_covered : (size : ℕ) (from : Kind) (width : ℕ) (n : ℤ) → covers Int size from width ≡ true → InRange from width n
    → InRange Int size n
signed_covered size Int width n wide inside =
    let less : width ≤ size = grind (arith, nat_tests, wide) in
    let powers = pow-le-pow_right {n = 2} (omega arith) (let bits : 8 * width - 1 ≤ 8 * size - 1 = omega (arith, less) in bits) in
    (omega (arith, ints, inside.0, powers), omega (arith, ints, inside.1, powers))
signed_covered size Enumeration width n wide inside =
    let less : width ≤ size = grind (arith, nat_tests, wide) in
    let powers = pow-le-pow_right {n = 2} (omega arith) (let bits : 8 * width - 1 ≤ 8 * size - 1 = omega (arith, less) in bits) in
    (omega (arith, ints, inside.0, powers), omega (arith, ints, inside.1, powers))
signed_covered size Unsigned width n wide inside =
    let less : width < size = grind (arith, nat_tests, wide) in
    let powers = pow-le-pow_right {n = 2} (omega arith) (let bits : 8 * width ≤ 8 * size - 1 = omega (arith, less) in bits) in
    (omega (arith, ints, inside.0, powers), omega (arith, ints, inside.1, powers))
signed_covered size Char width n wide inside =
    let less : 1 < size = grind (arith, nat_tests, wide) in
    let powers : 256 ≤ 2 ^ (8 * size - 1) = pow-le-pow_right {n = 2} (omega arith)
    (let bits : 8 ≤ 8 * size - 1 = omega (arith, less) in bits) in
    (omega (arith, ints, inside.0, powers), omega (arith, ints, inside.1, powers))
signed_covered size Boolean width n wide inside =
    let less : 0 < size = grind (arith, nat_tests, wide) in
    let powers : 128 ≤ 2 ^ (8 * size - 1) = pow-le-pow_right {n = 2} (omega arith)
    (let bits : 7 ≤ 8 * size - 1 = omega (arith, less) in bits) in
    (omega (arith, ints, inside.0, powers), omega (arith, ints, inside.1, powers))

unsigned_covered : (size : ℕ) (from : Kind) (width : ℕ) (n : ℤ) → covers Unsigned size from width ≡ true → InRange from width n
    → InRange Unsigned size n
unsigned_covered size Int width n wide inside = cc
unsigned_covered size Enumeration width n wide inside = cc
unsigned_covered size Unsigned width n wide inside =
    let less : width ≤ size = grind (arith, nat_tests, wide) in
    let powers = pow-le-pow_right {n = 2} (omega arith) (let bits : 8 * width ≤ 8 * size = omega (arith, less) in bits) in
    (inside.0, omega (arith, ints, inside.1, powers))
unsigned_covered size Char width n wide inside =
    let less : 0 < size = grind (arith, nat_tests, wide) in
    let powers : 256 ≤ 2 ^ (8 * size) = pow-le-pow_right {n = 2} (omega arith)
    (let bits : 8 ≤ 8 * size = omega (arith, less) in bits) in
    (inside.0, omega (arith, ints, inside.1, powers))
unsigned_covered size Boolean width n wide inside =
    let less : 0 < size = grind (arith, nat_tests, wide) in
    let powers : 256 ≤ 2 ^ (8 * size) = pow-le-pow_right {n = 2} (omega arith)
    (let bits : 8 ≤ 8 * size = omega (arith, less) in bits) in
    (inside.0, omega (arith, ints, inside.1, powers))

char_covered : (size : ℕ) (from : Kind) (width : ℕ) (n : ℤ) → covers Char size from width ≡ true → InRange from width n
    → InRange Char size n
char_covered size Int width n wide inside = cc
char_covered size Enumeration width n wide inside = cc
char_covered size Unsigned width n wide inside =
    let less : width ≤ 1 = grind (arith, nat_tests, wide) in
    let powers : 2 ^ (8 * width) ≤ 256 = pow-le-pow_right {n = 2} (omega arith)
    (let bits : 8 * width ≤ 8 = omega (arith, less) in bits) in
    (inside.0, omega (arith, ints, inside.1, powers))
char_covered size Char width n wide inside = inside
char_covered size Boolean width n wide inside = (inside.0, omega (arith, ints, inside.1))

boolean_covered : (size : ℕ) (from : Kind) (width : ℕ) (n : ℤ) → covers Boolean size from width ≡ true → InRange from width n
    → InRange Boolean size n
boolean_covered size Int width n wide inside = cc
boolean_covered size Enumeration width n wide inside = cc
boolean_covered size Unsigned width n wide inside = cc
boolean_covered size Char width n wide inside = cc
boolean_covered size Boolean width n wide inside = inside

-- a kind that covers another has its numbers
pub covered : (kind : Kind) (size : ℕ) (from : Kind) (width : ℕ) (n : ℤ) → covers kind size from width ≡ true → InRange from width n
    → InRange kind size n
covered Int size from width n wide inside = signed_covered size from width n wide inside
covered Unsigned size from width n wide inside = unsigned_covered size from width n wide inside
covered Char size from width n wide inside = char_covered size from width n wide inside
covered Boolean size from width n wide inside = boolean_covered size from width n wide inside
covered Enumeration size from width n wide inside = signed_covered size from width n wide inside

quiet_number : (image : Image) (kind : Kind) (size : ℕ) (from : Kind) (width s : ℕ) → covers kind size from width ≡ true
    → s + width ≤ length image.bytes → IsTrue (is_size_of from width) → AreBytes image.bytes
    → is_in_range kind size (number image.order from (bytes_at s width image.bytes)) ≡ true
quiet_number image kind size from width s wide within allowed are =
    let bytes = bytes_at s width image.bytes in
    let n = number image.order from bytes in
    let long : length bytes ≡ width = length_cut image.bytes s width within in
    let allowed' : IsTrue (is_size_of from (length bytes)) = subst (λ (w : ℕ). IsTrue (is_size_of from w)) (sym long) allowed in
    let ranged : InRange from width n = subst (λ (w : ℕ). InRange from w n) long
    (InRange-number image.order from bytes allowed' (AreBytes-cut image.bytes s width are)) in
    range_test kind size n (covered kind size from width n wide ranged)

-- ---- fields

quiet_fits : (image : Image) (at size : ℕ) (op : Op) (quiet : Bool) (Inside : ℕ → Type 0) → is_quiet_op size op quiet ≡ true
    → IsOpThere image at op Inside → AreBytes image.bytes → op_fits image at size op ≡ true
quiet_fits image at size (Number kind (Standing source)) quiet Inside is there are =
    quiet_number image kind size source.kind source.size (at + source.offset) is there.0 there.1 are
quiet_fits image at size (Number kind (Stated n)) quiet Inside is there are =
    (and_parts (is_size_of kind size) (is_in_range kind size n) is).1
quiet_fits image at size (Text from) quiet Inside is there are = refl
quiet_fits image at size (Nest offset) quiet Inside is there are = refl
quiet_fits image at size (Each count elements) quiet Inside is there are = refl
quiet_fits image at size (Many origin elements) quiet Inside is there are = refl

-- records inside find nothing where they are quiet
abbrev pub FindsNothing : Bool → (List PlaceStep → ℕ → ℕ → Made (Unit {0})) → (ℕ → Type 0) → Type 0
FindsNothing quiet inside Inside =
    quiet ≡ true → (place : List PlaceStep) (s later : ℕ) → Inside s → inside place s later ≡ made tt later

quiet_part : (limit : ℕ) (image : Image) (size : ℕ) (p : Part) (quiet : Bool) (inside : List PlaceStep → ℕ → ℕ → Made (Unit {0}))
    (Inside : ℕ → Type 0) (place : List PlaceStep) (s after : ℕ) → is_quiet_part size p quiet ≡ true → IsPartThere image p Inside s
    → AreBytes image.bytes → FindsNothing quiet inside Inside → measured_part limit image size p inside place s after ≡ made tt after
quiet_part limit image size (part.Number kind from width) quiet inside Inside place s after is there are finds =
    rw (quiet_number image kind size from width s is there.0 there.1 are) refl
quiet_part limit image size part.Text quiet inside Inside place s after is there are finds = cc
quiet_part limit image size part.Record quiet inside Inside place s after is there are finds = finds is place s after there

quiet_elements : (one : ℕ → ℕ → Made (Unit {0})) (n k after : ℕ)
    → ((i later : ℕ) → k ≤ i → i < k + n → one i later ≡ made tt later) → measured_elements one n k after ≡ made tt after
quiet_elements one zero k after each = refl
quiet_elements one (suc n) k after each =
    ap (λ (m : Made (Unit {0})). then_make m (λ _ later. measured_elements one n (suc k) later))
    (each k after (omega arith) (omega arith))
    ∙ quiet_elements one n (suc k) after (λ i later low high. each i later (omega (arith, low)) (omega (arith, high)))

-- quiet elements of the sender's array
pub quiet_run : (limit : ℕ) (image : Image) (size : ℕ) (p : Part) (quiet : Bool) (inside : List PlaceStep → ℕ → ℕ → Made (Unit {0}))
    (Inside : ℕ → Type 0) (place : List PlaceStep) (at n after : ℕ) (run : Run) → is_quiet_part size p quiet ≡ true
    → IsRunThere image at p Inside run → run_count image at run ≡ n → AreBytes image.bytes → FindsNothing quiet inside Inside
    → measured_run limit image size p inside place at (Some run) n after ≡ made tt after
quiet_run limit image size p quiet inside Inside place at n after run is there count are finds =
    quiet_elements (λ k later. measured_part limit image size p inside (place ++ Nth k ∷ []) (element_place image at run k) later) n 0 after
    (λ i later low high. quiet_part limit image size p quiet inside Inside (place ++ Nth i ∷ []) (element_place image at run i) later is
    (there.each i (omega (arith, high, count))) are finds)

stated_is : (image : Image) (at n : ℕ) (origin : Origin) → has_stated_count n origin ≡ true
    → nat_eq (as_count (origin_number image at origin)) n ≡ true
stated_is image at n (Standing source) is = cc
stated_is image at n (Stated m) is = is

quiet_list : (limit : ℕ) (image : Image) (size n : ℕ) (p : Part) (run : Option Run) (quiet : Bool)
    (inside : List PlaceStep → ℕ → ℕ → Made (Unit {0})) (Inside : ℕ → Type 0) (place : List PlaceStep) (at after : ℕ)
    → is_quiet_run n size p quiet run ≡ true → AreElementsThere image at p Inside run → AreBytes image.bytes
    → FindsNothing quiet inside Inside
    → unless_unfit (has_other_count image at n run) place (λ _. measured_run limit image size p inside place at run n after) ≡ made tt after
quiet_list limit image size n p None quiet inside Inside place at after is there are finds = refl
quiet_list limit image size n p (Some run) quiet inside Inside place at after is there are finds =
    let parts = and_parts (has_stated_count n run.count) (is_quiet_part size p quiet) is in
    let same = stated_is image at n run.count parts.0 in
    let count : run_count image at run ≡ n = eqb-true (run_count image at run) n same in
    ap (λ (b : Bool). unless_unfit (not b) place (λ _. measured_run limit image size p inside place at (Some run) n after)) same
    ∙ quiet_run limit image size p quiet inside Inside place at n after run parts.1 there count are finds

quiet_op : (limit : ℕ) (image : Image) (size : ℕ) (op : Op) (quiet : Bool) (inside : List PlaceStep → ℕ → ℕ → Made (Unit {0}))
    (Inside : ℕ → Type 0) (place : List PlaceStep) (at after : ℕ) → is_quiet_op size op quiet ≡ true → IsOpThere image at op Inside
    → AreBytes image.bytes → FindsNothing quiet inside Inside → measured_op limit image size op inside place at after ≡ made tt after
quiet_op limit image size (Number kind origin) quiet inside Inside place at after is there are finds = refl
quiet_op limit image size (Text None) quiet inside Inside place at after is there are finds = refl
quiet_op limit image size (Text (Some offset)) quiet inside Inside place at after is there are finds = cc
quiet_op limit image size (Nest offset) quiet inside Inside place at after is there are finds = finds is place (at + offset) after there.1
quiet_op limit image size (Each n elements) quiet inside Inside place at after is there are finds =
    quiet_list limit image size n elements.part elements.run quiet inside Inside place at after is there are finds
quiet_op limit image size (Many origin elements) quiet inside Inside place at after is there are finds = cc

-- ---- records

skipped : (test : Bool) (place : List PlaceStep) (next : Unit {0} → Made (Unit {0})) → test ≡ true
    → unless_unfit (not test) place next ≡ next tt
skipped true place next is = refl
skipped false place next is = cc

quiet_tested : (image : Image) (at : ℕ) (program : Program) (place : List PlaceStep) → is_quiet program ≡ true → IsReady image program at
    → AreBytes image.bytes → tested image at program place ≡ made tt 0
quiet_tested image at no_steps place is ready are = refl
quiet_tested image at (performs task inner rest) place is ready are =
    let parts = and_parts (is_quiet_op task.size task.op (is_quiet inner)) (is_quiet rest) is in
    skipped (op_fits image at task.size task.op) (place ++ At task.field ∷ []) (λ _. tested image at rest place)
    (quiet_fits image at task.size task.op (is_quiet inner) (λ s. IsReady image inner s) parts.0 ready.0 are)
    ∙ quiet_tested image at rest place parts.1 ready.1 are

quiet_steps : (limit : ℕ) (image : Image) (program : Program) (place : List PlaceStep) (at after : ℕ) → is_quiet program ≡ true
    → IsReady image program at → AreBytes image.bytes → measured_steps limit image program place at after ≡ made tt after
quiet_steps limit image no_steps place at after is ready are = refl
quiet_steps limit image (performs task inner rest) place at after is ready are =
    let parts = and_parts (is_quiet_op task.size task.op (is_quiet inner)) (is_quiet rest) is in
    let inside : List PlaceStep → ℕ → ℕ → Made (Unit {0}) = λ place' s later. then_make (tested image s inner place')
    (λ _ _. measured_steps limit image inner place' s later) in
    ap (λ (m : Made (Unit {0})). then_make m (λ _ later. measured_steps limit image rest place at later))
    (quiet_op limit image task.size task.op (is_quiet inner) inside (λ s. IsReady image inner s) (place ++ At task.field ∷ []) at after
    parts.0 ready.0 are
    (λ quiet place' s later here. ap (λ (m : Made (Unit {0})). then_make m (λ _ _. measured_steps limit image inner place' s later))
    (quiet_tested image s inner place' quiet here are) ∙ quiet_steps limit image inner place' s later quiet here are))
    ∙ quiet_steps limit image rest place at after parts.1 ready.1 are

-- a quiet record finds nothing
pub quiet_measured : (limit : ℕ) (image : Image) (program : Program) (place : List PlaceStep) (at after : ℕ) → is_quiet program ≡ true
    → IsReady image program at → AreBytes image.bytes → measured limit image program place at after ≡ made tt after
quiet_measured limit image program place at after is ready are =
    ap (λ (m : Made (Unit {0})). then_make m (λ _ _. measured_steps limit image program place at after))
    (quiet_tested image at program place is ready are) ∙ quiet_steps limit image program place at after is ready are

-- ---- the steps that can refuse something or take a block

next_same : (test : Bool) (place : List PlaceStep) (next next' : Unit {0} → Made (Unit {0})) → next tt ≡ next' tt
    → unless_unfit test place next ≡ unless_unfit test place next'
next_same true place next next' same = refl
next_same false place next next' same = same

then_same : (m : Made (Unit {0})) (next next' : Unit {0} → ℕ → Made (Unit {0})) → ((later : ℕ) → next tt later ≡ next' tt later)
    → then_make m next ≡ then_make m next'
then_same (made u size) next next' same = same size
then_same (unfit place) next next' same = refl
then_same (large place) next next' same = refl

pub tests_tested : (image : Image) (at : ℕ) (all : List Program) (steps : List Step) (place : List PlaceStep)
    → IsReady image (program_of all steps) at → AreBytes image.bytes
    → tested image at (program_of all (tests_of all steps)) place ≡ tested image at (program_of all steps) place
tests_tested image at all [] place ready are = refl
tests_tested image at all (step ∷ steps) place ready are =
    by (is_quiet_op step.task.size step.task.op (is_quiet (inner_program all step.inner))) refl
    (tests_tested image at all steps place ready.1 are)
  where
    by : (quiet : Bool) → is_quiet_op step.task.size step.task.op (is_quiet (inner_program all step.inner)) ≡ quiet
        → tested image at (program_of all (tests_of all steps)) place ≡ tested image at (program_of all steps) place
        → tested image at (program_of all (if quiet then tests_of all steps else step ∷ tests_of all steps)) place
        ≡ tested image at (program_of all (step ∷ steps)) place
    by true is rest =
        rest
        ∙ sym (skipped (op_fits image at step.task.size step.task.op) (place ++ At step.task.field ∷ [])
        (λ _. tested image at (program_of all steps) place)
        (quiet_fits image at step.task.size step.task.op (is_quiet (inner_program all step.inner))
        (λ s. IsReady image (inner_program all step.inner) s) is ready.0 are))
    by false is rest =
        next_same (not (op_fits image at step.task.size step.task.op)) (place ++ At step.task.field ∷ [])
        (λ _. tested image at (program_of all (tests_of all steps)) place) (λ _. tested image at (program_of all steps) place) rest

pub tests_measured : (limit : ℕ) (image : Image) (all : List Program) (steps : List Step) (place : List PlaceStep) (at after : ℕ)
    → IsReady image (program_of all steps) at → AreBytes image.bytes
    → measured_steps limit image (program_of all (tests_of all steps)) place at after
    ≡ measured_steps limit image (program_of all steps) place at after
tests_measured limit image all [] place at after ready are = refl
tests_measured limit image all (step ∷ steps) place at after ready are =
    by (is_quiet_op step.task.size step.task.op (is_quiet (inner_program all step.inner))) refl
    (λ later. tests_measured limit image all steps place at later ready.1 are)
  where
    by : (quiet : Bool) → is_quiet_op step.task.size step.task.op (is_quiet (inner_program all step.inner)) ≡ quiet
        → ((later : ℕ) → measured_steps limit image (program_of all (tests_of all steps)) place at later
        ≡ measured_steps limit image (program_of all steps) place at later)
        → measured_steps limit image (program_of all (if quiet then tests_of all steps else step ∷ tests_of all steps)) place at after
        ≡ measured_steps limit image (program_of all (step ∷ steps)) place at after
    by true is rest =
        rest after
        ∙ sym (ap (λ (m : Made (Unit {0})). then_make m (λ _ later. measured_steps limit image (program_of all steps) place at later))
        (quiet_op limit image step.task.size step.task.op (is_quiet (inner_program all step.inner))
        (λ place' s later. measured limit image (inner_program all step.inner) place' s later)
        (λ s. IsReady image (inner_program all step.inner) s) (place ++ At step.task.field ∷ []) at after is ready.0 are
        (λ quiet place' s later here. quiet_measured limit image (inner_program all step.inner) place' s later quiet here are)))
    by false is rest =
        then_same (measured_op limit image step.task.size step.task.op
        (λ place' s later. measured limit image (inner_program all step.inner) place' s later) (place ++ At step.task.field ∷ []) at after)
        (λ _ later. measured_steps limit image (program_of all (tests_of all steps)) place at later)
        (λ _ later. measured_steps limit image (program_of all steps) place at later) rest

-- each of them is one of the list's
pub record Among (steps : List Step) (step : Step) : Type 0 where
  pub index : ℕ
  pub found : slice_get steps index ≡ Some step

pub tests_among : (all : List Program) (steps : List Step) (k : ℕ) (step : Step) → slice_get (tests_of all steps) k ≡ Some step
    → Among steps step
tests_among all [] k step found = cc
tests_among all (first ∷ steps) k step found =
    by (is_quiet_op first.task.size first.task.op (is_quiet (inner_program all first.inner))) k found
    (λ j there. tests_among all steps j step there)
  where
    by : (quiet : Bool) (k : ℕ) → slice_get (if quiet then tests_of all steps else first ∷ tests_of all steps) k ≡ Some step
        → ((j : ℕ) → slice_get (tests_of all steps) j ≡ Some step → Among steps step) → Among (first ∷ steps) step
    by true k found later = let rest = later k found in record { index = suc rest.index; found = rest.found }
    by false zero found later = record { index = zero; found = found }
    by false (suc k) found later = let rest = later k found in record { index = suc rest.index; found = rest.found }

pub tests_ready : (image : Image) (at : ℕ) (all : List Program) (steps : List Step) → IsReady image (program_of all steps) at
    → IsReady image (program_of all (tests_of all steps)) at
tests_ready image at all [] ready = tt
tests_ready image at all (step ∷ steps) ready =
    by (is_quiet_op step.task.size step.task.op (is_quiet (inner_program all step.inner))) (tests_ready image at all steps ready.1)
  where
    by : (quiet : Bool) → IsReady image (program_of all (tests_of all steps)) at
        → IsReady image (program_of all (if quiet then tests_of all steps else step ∷ tests_of all steps)) at
    by true rest = rest
    by false rest = (ready.0, rest)

pub tests_sound : (pointer depth length : ℕ) (all : List Program) (steps : List Step) → IsSound pointer (program_of all steps) depth length
    → IsSound pointer (program_of all (tests_of all steps)) depth length
tests_sound pointer depth length all [] sound = tt
tests_sound pointer depth length all (step ∷ steps) sound =
    by (is_quiet_op step.task.size step.task.op (is_quiet (inner_program all step.inner)))
    (tests_sound pointer depth length all steps sound.2)
  where
    by : (quiet : Bool) → IsSound pointer (program_of all (tests_of all steps)) depth length
        → IsSound pointer (program_of all (if quiet then tests_of all steps else step ∷ tests_of all steps)) depth length
    by true rest = rest
    by false rest = (sound.0, sound.1, rest)
