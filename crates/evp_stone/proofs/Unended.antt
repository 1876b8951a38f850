-- How many routes of a stone have rounds to come.
use Rattle.std.proofs.Common.{◌≡◌, ◌≢◌, ℕ, zero, suc, ◌+◌, ◌-◌, ◌<◌, ◌==◌, Bool, true, false, List, [], ◌∷◌, set, length, Some}
use Rattle.std.proofs.Common.{refl, sym, ap, ◌∙◌, arith, ne_eqb, ⊎_elim}
use Rattle.std.proofs.lemmas.Bool.{eq-eqb}
use Rattle.std.proofs.lemmas.Bool.Decides.{eqb_tells}
use Rattle.std.specs.Prelude.{if◌then◌else◌}
use Rattle.std.specs.List.{slice_get, AllByRecursion}
use Rattle.evp_stone.specs.Actor.{count_unended}
use Rattle.evp_stone.specs.JobShape.{JobShape}
use Rattle.evp_stone.specs.State.{RouteWork, StoneWork, round_in}
use Rattle.evp_stone.specs.Turned.{HasEnded}

-- 1 where a route has rounds to come
abbrev pub one_unended : ℕ → RouteWork → ℕ
one_unended rounds work = if round_in work == rounds then 0 else 1

pub unended_before : (rounds : ℕ) (work : RouteWork) → round_in work < rounds → one_unended rounds work ≡ 1
unended_before rounds work below =
    ap (λ (b : Bool). if b then 0 else 1) (ne_eqb (round_in work) rounds (λ e. absurd (omega arith)))

-- the work on one route changes
pub count_set : (rounds : ℕ) (works : List RouteWork) (place : ℕ) (here new : RouteWork) → slice_get works place ≡ Some here
    → count_unended rounds (set works place new) + one_unended rounds here ≡ count_unended rounds works + one_unended rounds new
count_set rounds [] place here new at = absurd (cc)
count_set rounds (w ∷ works) zero here new at =
    let is : w ≡ here = cc in
    let same : one_unended rounds w ≡ one_unended rounds here = ap (one_unended rounds) is in
    omega arith
count_set rounds (w ∷ works) (suc place) here new at =
    let rest = count_set rounds works place here new at in
    omega arith

-- how many are counted where the work on a route is in a later round, or in the same
abbrev pub left : ℕ → Bool → ℕ
left count ended = if ended then count - 1 else count

count_left : (b : Bool) (count now : ℕ) → now + 1 ≡ count + (if b then 0 else 1) → now ≡ left count b
count_left true count now same = omega arith
count_left false count now same = omega arith

pub unended_left : (rounds : ℕ) (works : List RouteWork) (place : ℕ) (here new : RouteWork) (count : ℕ) → slice_get works place ≡ Some here
    → round_in here < rounds → count ≡ count_unended rounds works
    → left count (round_in new == rounds) ≡ count_unended rounds (set works place new)
unended_left rounds works place here new count at below is =
    let one = unended_before rounds here below in
    let both = count_set rounds works place here new at in
    let counts : count_unended rounds (set works place new) + 1 ≡ count + one_unended rounds new = omega arith in
    sym (count_left (round_in new == rounds) count (count_unended rounds (set works place new)) counts)

-- there is one at least
pub some_unended : (rounds : ℕ) (works : List RouteWork) (place : ℕ) (here : RouteWork) → slice_get works place ≡ Some here
    → round_in here < rounds → 0 < count_unended rounds works
some_unended rounds [] place here at below = absurd (cc)
some_unended rounds (w ∷ works) zero here at below =
    let is : w ≡ here = cc in
    let one : one_unended rounds w ≡ 1 = ap (one_unended rounds) is ∙ unended_before rounds here below in
    omega arith
some_unended rounds (w ∷ works) (suc place) here at below =
    let rest = some_unended rounds works place here at below in
    omega arith

abbrev AllEnded : ℕ → List RouteWork → Type 0
AllEnded rounds works = AllByRecursion (λ (here : RouteWork). round_in here ≡ rounds) works

none_unended_all : (rounds : ℕ) (works : List RouteWork) → count_unended rounds works ≡ 0 → AllEnded rounds works
none_unended_all rounds [] none = tt
none_unended_all rounds (w ∷ works) none =
    ⊎_elim (λ e. (e.1, none_unended_all rounds works (omega arith)))
    (λ e. let one : one_unended rounds w ≡ 1 = ap (λ (b : Bool). if b then 0 else 1) (ne_eqb (round_in w) rounds e.1) in
    absurd (omega arith))
    (eqb_tells (round_in w) rounds)

all_none_unended : (rounds : ℕ) (works : List RouteWork) → AllEnded rounds works → count_unended rounds works ≡ 0
all_none_unended rounds [] all = refl
all_none_unended rounds (w ∷ works) all =
    let none : one_unended rounds w ≡ 0 = ap (λ (b : Bool). if b then 0 else 1) (eq-eqb (round_in w) rounds all.0) in
    let rest = all_none_unended rounds works all.1 in
    omega arith

-- none is counted exactly where each round of each route has ended
pub has_ended : (job : JobShape) (work : StoneWork) → count_unended (length job.rounds) work.routes ≡ 0 → HasEnded job work
has_ended job work none = none_unended_all (length job.rounds) work.routes none

pub not_ended : (job : JobShape) (work : StoneWork) → count_unended (length job.rounds) work.routes ≢ 0 → HasEnded job work → ⊥
not_ended job work some ended = some (all_none_unended (length job.rounds) work.routes ended)
